-- What tokens and the answers about them mean.
pub mod Meaning
pub mod Marks
pub mod Digits
pub mod Ends
pub mod Strings
