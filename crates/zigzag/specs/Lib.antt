-- Signed numbers as numbers of 64 bits.
pub mod Zigzag
