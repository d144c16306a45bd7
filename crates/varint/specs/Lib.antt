-- The definitions that the contracts of this crate cite, in the order to read them.
pub mod Varint
pub mod Signed
pub mod Write
pub mod Meaning
