-- The open blocks as a state keeps them.
pub mod Kept
