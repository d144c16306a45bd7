-- Laws of text tokens.
pub mod Laws
pub mod Callers
pub mod Single
