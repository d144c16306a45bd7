-- The definitions that the contracts of this crate cite.
pub mod Short
