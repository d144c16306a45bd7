-- Laws of searches: Laws by place, Marks from the marks of a word.
pub mod Laws
mod Marks
