-- Laws of the refusals, and one that every crate uses.
pub mod Cases
pub mod Laws
