-- Laws of pieces, for the code and for callers.
pub mod Sizes
pub mod Walks
pub mod One
