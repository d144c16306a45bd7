-- Laws of tokens in either format.
pub mod Laws
pub mod Only
