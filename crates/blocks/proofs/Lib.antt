-- Laws of the open blocks. Bottom up: a token's kind by its first byte (Firsts), what a token does to the open blocks (Ways), and
-- the readings, one at a time (Laws) and in all (Ranged).
pub mod Firsts
pub mod Ways
pub mod Laws
pub mod Ranged
