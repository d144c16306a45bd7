-- Laws of words: Bytes of a word's bytes, Marks of the lowest mark, Bytewise of masks on words.
pub mod Bytes
pub mod Marks
pub mod Bytewise
