-- Laws of quoted strings: Laws are for callers, and the others for the code.
pub mod Laws
mod Places
mod Plain
mod Answers
mod Whole
