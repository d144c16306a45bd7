-- Laws that belong to no one function.
pub mod Read
pub mod Write
pub mod Round
pub mod Extend
pub mod Answers
