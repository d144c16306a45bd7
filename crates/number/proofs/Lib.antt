-- Laws of number text. Laws has what callers need; the rest serves the proofs of this crate.
pub mod Laws
pub mod Examples
mod Classes
mod Runs
mod Ends
mod Values
mod Signs
mod Tokens
mod Fast
