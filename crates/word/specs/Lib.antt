-- Bytes as a number.
pub mod Word
