-- What `put_decimal` promises is one place and one output: the fewest digits of a number are one number of digits. Assumes nothing.
use mathlib.Core.Path.{◌≡◌, refl, sym, ap, ◌∙◌}
use mathlib.Core.Bool.{Bool, true, false}
use mathlib.Core.List.{List}
use Prim.Native.Nat.{ℕ, ◌-◌, ◌^◌, ◌≤◌, ◌<◌}
use native.Mathlib.Nat.{pow-le-pow_right, zero-lt-suc}
use native.Mathlib.Omega.{arith}
use lib.Dec.{ltb}
use borrow.Author.Tests.{ltb-true, ltb-false}
use Rattle.output.specs.Digits.{last_digits, IsDigitCount}
use Rattle.output.specs.Put.{put, after, Decimal}

-- no number of digits that holds x lies below the fewest
not_below : (x k j : ℕ) → IsDigitCount 10 1 x k → IsDigitCount 10 1 x j → k < j → ⊥
not_below x k j a b h = omega (arith, a.1, b.2 (omega (arith, a.0)), tens)
  where
    tens : 10 ^ k ≤ 10 ^ (j - 1)
    tens = pow-le-pow_right (zero-lt-suc 9) (omega arith)

pub fewest_one : (x k j : ℕ) → IsDigitCount 10 1 x k → IsDigitCount 10 1 x j → k ≡ j
fewest_one x k j a b = go (ltb k j) refl
  where
    other : (t : Bool) → ltb j k ≡ t → j ≤ k → k ≡ j
    other true e h = absurd (not_below x j k b a (ltb-true j k e))
    other false e h = omega (arith, ltb-false j k e)

    go : (t : Bool) → ltb k j ≡ t → k ≡ j
    go true e = absurd (not_below x k j a b (ltb-true k j e))
    go false e = other (ltb j k) refl (ltb-false k j e)

-- two answers that the promise allows are equal, and so is what they leave in the output
pub decimal_one : (d : List ℕ) (n x r r' : ℕ) (e e' : List ℕ) → Decimal d n x r e → Decimal d n x r' e' → (r ≡ r') × (e ≡ e')
decimal_one d n x r r' e e' a b =
    let q = fewest_one x a.k b.k a.fewest b.fewest in
    (a.place ∙ ap (λ (k : ℕ). after d n (last_digits 10 k x)) q ∙ sym b.place, a.bytes ∙ ap (λ (k : ℕ). put d n (last_digits 10 k x)) q ∙ sym b.bytes)
