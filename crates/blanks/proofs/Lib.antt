-- Laws of what text ignores: Laws for callers, Ways for the code.
pub mod Laws
pub mod Ways
