-- The lowest mark of a word, where a mark is the top bit of a byte.
use mathlib.Core.Path.{◌≡◌, ap, ◌∙◌}
use Prim.Native.Nat.{ℕ, zero, suc, ◌+◌, ◌*◌, ◌%◌, ◌^◌}
use native.Mathlib.Nat.{add-zero, mul-one}
use native.Mathlib.Omega.{arith}
use lib.Bits.{shifted_half, shifted_even}
use lib.Count.{count_trailing_zeros}

-- j more than k
abbrev pub plus : ℕ → ℕ → ℕ
plus zero k = k
plus (suc j) k = suc (plus j k)

-- the bits of n bytes
abbrev pub bits_of : ℕ → ℕ
bits_of zero = 0
bits_of (suc n) = plus 8 (bits_of n)

zeros_shift : (j k a : ℕ) → count_trailing_zeros (plus j k) (a * 2 ^ j) ≡ plus j (count_trailing_zeros k a)
unfolding count_trailing_zeros
zeros_shift zero k a = ap (count_trailing_zeros k) (mul-one a)
zeros_shift (suc j) k a = rw (shifted_even a j, shifted_half a j, zeros_shift j k a)

-- no mark in the lowest byte, and one
pub zeros_none : (k a : ℕ) → count_trailing_zeros (plus 8 k) (a * 256 + 0) ≡ plus 8 (count_trailing_zeros k a)
zeros_none k a = rw add-zero (zeros_shift 8 k a)

pub zeros_mark : (k a : ℕ) → count_trailing_zeros (plus 8 k) (a * 256 + 128) ≡ 7
unfolding count_trailing_zeros
zeros_mark k a = ap (count_trailing_zeros (plus 8 k)) split ∙ zeros_shift 7 (suc k) (a * 2 + 1) ∙ rw odd
  where
    split : a * 256 + 128 ≡ (a * 2 + 1) * 128
    split = omega arith

    odd : (a * 2 + 1) % 2 ≡ 1
    odd = omega arith
