-- The pieces of a quoted string, and what the functions answer.
pub mod Bytes
pub mod Pieces
pub mod Answers
