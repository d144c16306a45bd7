-- Words after `%`, and unquoted strings.
pub mod Word
pub mod Plain
pub mod Cases
