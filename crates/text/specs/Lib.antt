-- The definitions that the contracts of this crate cite, in the order to read them.
pub mod Text
pub mod Strings
