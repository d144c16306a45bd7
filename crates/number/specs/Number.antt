-- Which number token stands at a place of text, and where it ends.
use Rattle.std.specs.Prelude.{ℕ, ◌+◌, ◌-◌, ◌^◌, Bool, not, ◌&&◌, List, [], ◌∷◌, eqb, ltb, ℤ, pos, neg_ℤ, length, drop}
use Rattle.refusal.specs.Numbers.{bad_uint64, bad_double, bad_int64, beyond_slice}
use Rattle.refusal.specs.Paper.{Paper, gives, more, refused, Spot, spot, pick}
use Rattle.token.specs.declared.Token.{Token}
use Rattle.token.specs.declared.Token.TheVariants.{Int64, Uint64, Decimal}
use Rattle.number.specs.Bytes.{is_minus, is_pointed, is_text, is_unsigned, starts, any}
use Rattle.number.specs.Grammar.{front, past, after_sign, value, is_up_to, is_double}

-- unsigned decimal, a leading `+` allowed and `-` never, below 2^64
unfoldable pub is_uint64 : List ℕ → Bool
is_uint64 l = not (starts is_minus l) && is_up_to (2 ^ 64 - 1) (after_sign l)

-- int64 with an optional sign: from -2^63 to 2^63 - 1
unfoldable pub is_int64 : List ℕ → Bool
is_int64 l = pick (starts is_minus l) (is_up_to (2 ^ 63) (after_sign l)) (is_up_to (2 ^ 63 - 1) (after_sign l))

unfoldable pub int64_of : List ℕ → ℤ
int64_of l = pick (starts is_minus l) (neg_ℤ (pos (value (after_sign l)))) (pos (value (after_sign l)))

-- the answer for number text of each kind, which starts at a place and has the next behind it
unfoldable pub uint64_text : ℕ → ℕ → List ℕ → Paper (Spot Token)
uint64_text at next l = pick (is_uint64 l) (gives (spot (Uint64 (value (after_sign l))) at next)) (refused bad_uint64 (at ∷ []))

unfoldable pub double_text : ℕ → ℕ → List ℕ → Paper (Spot Token)
double_text at next l = pick (is_double l) (gives (spot (Decimal at (length l)) at next)) (refused bad_double (at ∷ []))

unfoldable pub int64_text : ℕ → ℕ → List ℕ → Paper (Spot Token)
int64_text at next l = pick (is_int64 l) (gives (spot (Int64 (int64_of l)) at next)) (refused bad_int64 (at ∷ []))

-- with `u` behind the text a uint64; with `.`, `e` or `E` in it a double; else an int64
unfoldable pub number_text : ℕ → Bool → List ℕ → Paper (Spot Token)
number_text at unsigned l =
    pick unsigned (uint64_text at (at + length l + 1) l)
    (pick (any is_pointed l) (double_text at (at + length l) l) (int64_text at (at + length l) l))

-- numbers run over digits, `+ - . e E`, and stop after one `u`
unfoldable pub number_of : ℕ → List ℕ → Paper (Spot Token)
number_of at t = number_text at (starts is_unsigned (past is_text t)) (front is_text t)

-- the number at a place: beyond the slice there is none, and at its end more bytes are needed
unfoldable pub number_at : List ℕ → ℕ → Paper (Spot Token)
number_at s at = pick (ltb (length s) at) (refused beyond_slice []) (pick (eqb (length s) at) more (number_of at (drop at s)))
