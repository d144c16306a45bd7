-- Half a number, exclusive or with nought less its low bit, read in two's complement, is what zigzag says.
-- Assumes nothing.
use Rattle.std.proofs.Common.{◌≡◌, ℕ, suc, ◌+◌, ◌-◌, ◌*◌, ◌/◌, ◌%◌, ◌^◌, ◌<◌, ◌≤◌, ℤ, pos, negsuc, sym, ap, ◌∙◌, ⊎_elim, mod-eq_of_lt, eq-zero-or-pos, arith, le-ltb, lt-ltb, eq-eqb, ne_eqb}
use lib.Bits.{bit_xor, xor_zero_r, xor_add_and, and_mask}
use Rattle.zigzag.specs.Zigzag.{twos, signed, zigzag}

-- exclusive or with all ones is the complement
pub xor_ones : (k a : ℕ) → a < 2 ^ k → bit_xor a (2 ^ k - 1) + a ≡ 2 ^ k - 1
xor_ones k a h = omega (arith, xor_add_and a (2 ^ k - 1), and_mask a k ∙ mod-eq_of_lt h)

pub twos_low : (n : ℕ) → n < 2 ^ 63 → twos n ≡ pos n
unfolding twos
twos_low n h = simp (lt-ltb _ _ h)

pub twos_high : (n : ℕ) → 2 ^ 63 ≤ n → twos n ≡ negsuc (2 ^ 64 - suc n)
unfolding twos
twos_high n h = simp (le-ltb _ _ h)

pub even : (n : ℕ) → n % 2 ≡ 0 → signed n ≡ pos (n / 2)
unfolding signed
even n h = simp (eq-eqb _ _ h)

pub odd : (n : ℕ) → n % 2 ≡ 1 → signed n ≡ negsuc (n / 2)
unfolding signed
odd n h =
    let e : (n + 1) / 2 ≡ suc (n / 2) = omega arith in
    simp (ne_eqb (n % 2) 0 (λ z. omega arith), e)

-- r is nought less the low bit, wrapping
pub unzigzag_is : (n r : ℕ) → n < 2 ^ 64 → r < 2 ^ 64 → (r + n % 2) % 2 ^ 64 ≡ 0 → twos (bit_xor (n / 2) r) ≡ signed n
unzigzag_is n r hn hr e =
    ⊎_elim
    (λ h.
    let z : r ≡ 0 = omega arith in
    let x : bit_xor (n / 2) r ≡ n / 2 = rw z (xor_zero_r (n / 2)) in
    rw x (twos_low _ (omega arith) ∙ sym (even n (omega arith))))
    (λ h.
    let z : r ≡ 2 ^ 64 - 1 = omega arith in
    let x : bit_xor (n / 2) r ≡ 2 ^ 64 - 1 - n / 2 = rw z (omega (arith, xor_ones 64 (n / 2) (omega arith))) in
    let y : 2 ^ 64 - suc (bit_xor (n / 2) r) ≡ n / 2 = omega arith in
    twos_high _ (omega arith) ∙ ap negsuc y ∙ sym (odd n (omega arith)))
    (eq-zero-or-pos (n % 2))

-- zigzag and back
pub signed_zigzag : (z : ℤ) → signed (zigzag z) ≡ z
signed_zigzag (pos n) = even (n * 2) (omega arith) ∙ ap pos (omega arith)
signed_zigzag (negsuc k) = odd (k * 2 + 1) (omega arith) ∙ ap negsuc (omega arith)

-- and back again
pub zigzag_signed : (n : ℕ) → zigzag (signed n) ≡ n
zigzag_signed n =
    ⊎_elim (λ h. ap zigzag (even n (omega arith)) ∙ omega arith) (λ h. ap zigzag (odd n (omega arith)) ∙ omega arith) (eq-zero-or-pos (n % 2))
