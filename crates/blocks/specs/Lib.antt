-- The open blocks of a record that is read in pieces, and what its tokens do to them.
pub mod Moves
pub mod Readings
