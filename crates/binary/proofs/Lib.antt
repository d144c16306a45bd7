-- Laws of binary tokens.
pub mod Nan
pub mod Laws
pub mod Callers
