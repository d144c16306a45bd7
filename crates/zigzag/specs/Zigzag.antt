-- Signed numbers: zigzag, from the Protocol Buffers encoding document, and two's complement at 64 bits.
use Rattle.std.specs.Prelude.{ℕ, suc, ◌+◌, ◌-◌, ◌*◌, ◌/◌, ◌%◌, ◌^◌, cond, ℤ, pos, negsuc, neg_ℤ, ◌==◌, nat_lt}

-- what a zigzag number stands for: an even n is n / 2, an odd n is -(n + 1) / 2
unfoldable pub signed : ℕ → ℤ
signed n = cond (n % 2 == 0) (pos (n / 2)) (neg_ℤ (pos ((n + 1) / 2)))

-- the zigzag number of a signed one: n is 2 * n, and -(k + 1), which is `negsuc k`, is 2 * k + 1
abbrev pub zigzag : ℤ → ℕ
zigzag (pos n) = n * 2
zigzag (negsuc k) = k * 2 + 1

-- a pattern of 64 bits in two's complement: below 2 ^ 63 it is itself, any other stands for 2 ^ 64 less
unfoldable pub twos : ℕ → ℤ
twos n = cond (nat_lt n (2 ^ 63)) (pos n) (negsuc (2 ^ 64 - suc n))
