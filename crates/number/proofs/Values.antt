-- The number that digits write: by place, against a limit, and how large so many digits can be. Assumes nothing.
use mathlib.Core.Path.{◌≡◌, refl, ◌∙◌}
use mathlib.Core.Bool.{Bool, true, false, ◌&&◌, and_self_left}
use mathlib.Core.List.{List, [], ◌∷◌}
use Prim.Native.Nat.{ℕ, ◌+◌, ◌*◌, ◌-◌, ◌^◌, ◌≤◌, ◌<◌}
use native.Mathlib.Nat.{le_trans, le_refl, mul-le-mul_right, mul_assoc, pow-succ', pow-le-pow_right}
use native.Mathlib.Omega.{arith}
use borrow.Author.Tests.{le-leb, lt-leb}
use lib.Dec.{leb, lit<}
use lib.ListN.{length, get_or, drop, drop_of_length-le}
use Rattle.refusal.specs.Paper.{pick}
use Rattle.token.specs.Digits.{is_digit}
use Rattle.number.specs.Bytes.{starts, all}
use Rattle.number.specs.Grammar.{is_decimal, value_after, value, is_up_to}
use Rattle.number.specs.Places.{up_to}
use Rattle.std.specs.Prelude.{Option, Some, None}
use Rattle.number.proofs.Classes.{digit_to, and_left, and_right}
use Rattle.search.proofs.Laws.{drop_more}

-- more digits never make a number less
value_more : (a : ℕ) (l : List ℕ) → a ≤ value_after a l
unfolding value_after
value_more a [] = le_refl a
value_more a (b ∷ l) = le_trans step (value_more (a * 10 + (b - 48)) l)
  where
    step : a ≤ a * 10 + (b - 48)
    step = omega arith

-- digits behind those that wrote a, up to a limit
unfoldable pub onward_to : ℕ → ℕ → List ℕ → Option ℕ
onward_to limit a l = pick (all is_digit l && leb (value_after a l) limit) (Some (value_after a l)) None

over_any : (limit a : ℕ) (q : Bool) (l : List ℕ) → limit < a → None ≡ pick (q && leb (value_after a l) limit) (Some (value_after a l)) None
over_any limit a true l h = rw (lt-leb (value_after a l) limit (omega (arith, value_more a l)))
over_any limit a false l h = refl

onward_bad : (limit a b : ℕ) (l : List ℕ) → is_digit b ≡ false → None ≡ onward_to limit a (b ∷ l)
unfolding onward_to all
onward_bad limit a b l e = rw e

onward_more : (limit a b : ℕ) (l : List ℕ) → is_digit b ≡ true → onward_to limit (a * 10 + (b - 48)) l ≡ onward_to limit a (b ∷ l)
unfolding onward_to all value_after
onward_more limit a b l e = rw e

onward_all : (limit b : ℕ) (l : List ℕ) → onward_to limit 0 (b ∷ l) ≡ up_to limit (b ∷ l)
unfolding onward_to up_to is_up_to is_decimal all
onward_all limit b l = rw (and_self_left (is_digit b) (all is_digit l))

module _ (t : List ℕ) (limit : ℕ) (i : ℕ) where
  pub decimal_none : length t ≤ i → None ≡ up_to limit (drop i t)
  unfolding up_to is_up_to is_decimal
  decimal_none h = rw (drop_of_length-le t h)

  pub decimal_start : i < length t → onward_to limit 0 (drop i t) ≡ up_to limit (drop i t)
  decimal_start h = rw (drop_more t i h) (onward_all limit (get_or t i 0) (drop (i + 1) t))

  module _ (a : ℕ) where
    pub decimal_out : length t ≤ i → a ≤ limit → Some a ≡ onward_to limit a (drop i t)
    unfolding onward_to all value_after
    decimal_out h k = rw (drop_of_length-le t h, le-leb a limit k)

    module _ (h : i < length t) where
      pub decimal_bad : is_digit (get_or t i 0) ≡ false → None ≡ onward_to limit a (drop i t)
      decimal_bad e = rw (drop_more t i h) (onward_bad limit a (get_or t i 0) (drop (i + 1) t) e)

      module _ (e : is_digit (get_or t i 0) ≡ true) where
        pub decimal_more : onward_to limit (a * 10 + (get_or t i 0 - 48)) (drop (i + 1) t) ≡ onward_to limit a (drop i t)
        decimal_more = rw (drop_more t i h) (onward_more limit a (get_or t i 0) (drop (i + 1) t) e)

        pub decimal_over : limit < a * 10 + (get_or t i 0 - 48) → None ≡ onward_to limit a (drop i t)
        unfolding onward_to
        decimal_over k = over_any limit (a * 10 + (get_or t i 0 - 48)) (all is_digit (drop (i + 1) t)) (drop (i + 1) t) k ∙ decimal_more

-- ---- what an answer says

module _ (limit : ℕ) (l : List ℕ) where
  value_true : (q : Bool) (v : ℕ) → pick q (Some (value l)) None ≡ Some v → q ≡ true
  value_true true v e = refl
  value_true false v e = cc

  value_same : (q : Bool) (v : ℕ) → pick q (Some (value l)) None ≡ Some v → value l ≡ v
  value_same true v e = cc
  value_same false v e = cc

  bad_false : (q : Bool) → pick q (Some (value l)) None ≡ None → q ≡ false
  bad_false false e = refl
  bad_false true e = cc

  pub up_to_true : (v : ℕ) → up_to limit l ≡ Some v → is_up_to limit l ≡ true
  unfolding up_to
  up_to_true v e = value_true (is_up_to limit l) v e

  pub up_to_value : (v : ℕ) → up_to limit l ≡ Some v → value l ≡ v
  unfolding up_to
  up_to_value v e = value_same (is_up_to limit l) v e

  pub up_to_bad : up_to limit l ≡ None → is_up_to limit l ≡ false
  unfolding up_to
  up_to_bad e = bad_false (is_up_to limit l) e

-- ---- so many digits write a number below that power of ten

below : (a : ℕ) (l : List ℕ) → all is_digit l ≡ true → value_after a l < (a + 1) * 10 ^ length l
unfolding value_after all
below a [] e = omega arith
below a (b ∷ l) e = le_trans (below (a * 10 + (b - 48)) l (and_right (is_digit b) (all is_digit l) e)) (rw (pow-succ' 10 (length l), ← mul_assoc (a + 1) 10 (10 ^ length l)) (mul-le-mul_right (10 ^ length l) step))
  where
    step : a * 10 + (b - 48) + 1 ≤ (a + 1) * 10
    step = omega (arith, digit_to b (and_left (is_digit b) (all is_digit l) e))

pub few_digits : (limit n : ℕ) (l : List ℕ) → starts is_digit l ≡ true → all is_digit l ≡ true → length l ≤ n → 10 ^ n ≤ limit → is_up_to limit l ≡ true
unfolding is_up_to is_decimal
few_digits limit n l s e h k = rw (s, e, le-leb (value l) limit (omega (arith, below 0 l e, pow-le-pow_right {n = 10} (lit< tt) h)))
