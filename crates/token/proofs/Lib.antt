-- Laws of tokens and of the answers about them.
pub mod Answers
pub mod Sound
pub mod Marks
pub mod Ends
