-- The lengths, places and offsets of a stream, each test as document 01 has it.
use Rattle.std.specs.Prelude.{ℕ, ◌+◌, Bool, ◌&&◌, eqb, leb}

-- a buffer has N bytes, 64 to 65,536
abbrev pub least_buffer : ℕ
least_buffer = 64

abbrev pub most_buffer : ℕ
most_buffer = 65536

-- the largest stream offset, 2^64 - 1
abbrev pub most_offset : ℕ
most_offset = 18446744073709551615

-- 23, and of 28 that a length lies outside 23's range: a buffer has as many bytes as that
abbrev pub is_buffer : ℕ → Bool
is_buffer n = leb least_buffer n && leb n most_buffer

-- 28, places out of order: the record's first byte, the kept place and the end of the filled bytes lie in this order within n bytes
abbrev pub in_order : ℕ → ℕ → ℕ → ℕ → Bool
in_order start place filled n = leb start place && leb place filled && leb filled n

-- 28, lengths and places: the state was made for as many bytes as the buffer has, that many are a buffer, and the places lie in order
abbrev pub places_fit : ℕ → ℕ → ℕ → ℕ → ℕ → Bool
places_fit len start place filled n = eqb len n && is_buffer n && in_order start place filled n

-- 25, and 28, offset sum: the offset behind k bytes from the offset o on is at most 2^64 - 1
abbrev pub offset_fits : ℕ → ℕ → Bool
offset_fits o k = leb (o + k) most_offset
