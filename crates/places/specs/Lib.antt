-- The lengths, places and offsets of a stream.
pub mod Places
