-- Laws of the ends of binary tokens.
mod Words
mod Ends
mod Sizes
pub mod Short
