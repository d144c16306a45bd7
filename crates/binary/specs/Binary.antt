-- Binary tokens: markers 01 string (zigzag length, then bytes), 02 int64, 03 double, 04 false, 05 true, 06 uint64, and
-- `# < > [ ] { } = ;`. Every refusal of a token but 26 carries the place of the token's first byte.
use Rattle.std.specs.Prelude.{ℕ, ◌+◌, ◌-◌, true, false, List, [], ◌∷◌, length, get_or, ltb, eqb, ℤ, pos, negsuc}
use Rattle.std.specs.Float.{binary64}
use Rattle.std.specs.Float.Ieee.{of_bits}
use Rattle.refusal.specs.Numbers.{negative_length, beyond_slice}
use Rattle.refusal.specs.Paper.{Paper, gives, more, refused, Got, got, Spot, spot, pick}
use Rattle.varint.specs.Varint.{uvarint_at}
use Rattle.varint.specs.Signed.{varint_at}
use Rattle.token.specs.declared.Token.{Token}
use Rattle.token.specs.declared.Token.TheVariants.{String, Int64, Uint64, Double, Boolean}
use Rattle.token.specs.Marks.{mark_of, of_mark}
use Rattle.binary.specs.Little.{little8}

-- the varint behind a marker at the place `at`, where its refusals stand
abbrev pub behind : {A : Type 0} → ℕ → Paper (Got A) → Paper (Got A)
behind at (gives g) = gives g
behind at more = more
behind at (refused n vs) = refused n (at ∷ [])

-- a token that is its marker and a varint: more and the refusals are the varint's, at the token's first byte
abbrev pub of_varint : {A : Type 0} → ℕ → (A → Token) → Paper (Got A) → Paper (Spot Token)
of_varint at t (gives (got v next)) = gives (spot (t v) at next)
of_varint at t more = more
of_varint at t (refused n vs) = refused n (at ∷ [])

-- a string of k bytes from `next` on: k is compared with the bytes left, and is not below zero
abbrev pub of_size : List ℕ → ℕ → ℕ → ℤ → Paper (Spot Token)
of_size s at next (pos k) = pick (ltb (length s - next) k) more (gives (spot (String next k) at (next + k)))
of_size s at next (negsuc k) = refused negative_length (at ∷ [])

-- a string, by the answer about its length: 4 and 3 come before 2
abbrev pub of_length : List ℕ → ℕ → Paper (Got ℤ) → Paper (Spot Token)
of_length s at (gives (got k next)) = of_size s at next k
of_length s at more = more
of_length s at (refused n vs) = refused n (at ∷ [])

-- a double is eight bytes, lowest first, and its token carries them bit for bit
unfoldable pub double_at : List ℕ → ℕ → Paper (Spot Token)
double_at s at =
    pick (ltb (length s - at) 9) more
    (gives (spot (Double (of_bits binary64 (little8 s (at + 1))) (little8 s (at + 1))) at (at + 9)))

-- the token whose marker b stands at the place `at`
unfoldable pub marked : List ℕ → ℕ → ℕ → Paper (Spot Token)
marked s at b =
    pick (eqb b 0x01) (of_length s at (varint_at s (at + 1)))
    (pick (eqb b 0x02) (of_varint at Int64 (varint_at s (at + 1)))
    (pick (eqb b 0x03) (double_at s at)
    (pick (eqb b 0x04) (gives (spot (Boolean false) at (at + 1)))
    (pick (eqb b 0x05) (gives (spot (Boolean true) at (at + 1)))
    (pick (eqb b 0x06) (of_varint at Uint64 (uvarint_at s (at + 1)))
    (of_mark at (mark_of b)))))))

-- the token at a place: at the end of the bytes more are needed
unfoldable pub binary_from : List ℕ → ℕ → Paper (Spot Token)
binary_from s at = pick (ltb at (length s)) (marked s at (get_or s at 0)) more

-- the same for a caller's place, which may lie beyond the slice
unfoldable pub binary_at : List ℕ → ℕ → Paper (Spot Token)
binary_at s at = pick (ltb (length s) at) (refused beyond_slice []) (binary_from s at)
