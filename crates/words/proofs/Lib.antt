-- Laws of words and unquoted strings. Laws has what callers need; the rest serves the proofs of this crate.
pub mod Laws
pub mod Examples
mod Stands
mod Tokens
pub mod Plain
