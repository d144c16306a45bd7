-- Laws of writing a string's bytes.
mod Writes
mod Answers
