-- Varints, from the Protocol Buffers encoding document: each byte but the last has its top bit set, and the low seven bits of the
-- bytes, lowest first, are the number. A number has 64 bits, so ten bytes hold it.
use Rattle.std.specs.Prelude.{ℕ, suc, ◌+◌, ◌*◌, ◌%◌, Bool, ◌&&◌, List, [], ◌∷◌, length, take, drop, get_or, leb, ltb, Option, Some, None}
use Rattle.refusal.specs.Numbers.{long_varint, wide_varint, beyond_slice}
use Rattle.refusal.specs.Paper.{Paper, gives, more, refused, Got, got, pick}

-- how many bytes at the front have the top bit set
unfoldable pub run : List ℕ → ℕ
run [] = 0
run (b ∷ bs) = pick (leb 128 b) (suc (run bs)) 0

-- seven bits a byte, lowest first: the sum of (byte mod 128) * 128 ^ i
unfoldable pub number : List ℕ → ℕ
number [] = 0
number (b ∷ bs) = b % 128 + 128 * number bs

-- there is a tenth byte, and its low seven bits are above 1, whatever its top bit
abbrev pub tenth_is_wide : List ℕ → Bool
tenth_is_wide t = leb 9 (run t) && ltb 9 (length t) && ltb 1 (get_or t 9 0 % 128)

-- an eleventh byte is present after ten with the top bit set
abbrev pub eleventh_is_there : List ℕ → Bool
eleventh_is_there t = leb 10 (run t) && ltb 10 (length t)

-- the bytes run out before one without the top bit
abbrev pub runs_out : List ℕ → Bool
runs_out t = leb (length t) (run t)

-- the varint at the front of t, which starts at the place `at`: 4 goes before 3; running out of bytes means that more is needed;
-- longer forms than needed are accepted
unfoldable pub uvarint : ℕ → List ℕ → Paper (Got ℕ)
uvarint at t =
    pick (tenth_is_wide t) (refused wide_varint (at ∷ []))
    (pick (eleventh_is_there t) (refused long_varint (at ∷ []))
    (pick (runs_out t) more
    (gives (got (number (take (suc (run t)) t)) (at + suc (run t))))))

-- the varint at a place of s
unfoldable pub uvarint_at : List ℕ → ℕ → Paper (Got ℕ)
uvarint_at s at = pick (ltb (length s) at) (refused beyond_slice []) (uvarint at (drop at s))

-- the place after the number, where a whole one stands
abbrev pub uvarint_end : Paper (Got ℕ) → Option ℕ
uvarint_end (gives (got v next)) = Some next
uvarint_end more = None
uvarint_end (refused n vs) = None
