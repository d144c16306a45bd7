-- Kinds of bytes.
pub mod Classes
