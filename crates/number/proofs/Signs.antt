-- From the magnitude behind a sign to the number of each kind. Assumes nothing.
use mathlib.Core.Path.{◌≡◌, refl, sym, ◌∙◌}
use mathlib.Core.Bool.{Bool, true, false, ◌&&◌}
use mathlib.Core.List.{List}
use Prim.Native.Nat.{ℕ, ◌-◌, ◌^◌, ◌≤◌}
use native.Mathlib.Omega.{arith}
use borrow.Author.Tests.{le-leb, lt-leb, leb-true, leb-false}
use lib.Dec.{leb}
use lib.IntN.{ℤ, pos, neg_ℤ, ◌-ℤ◌}
use lib.ListN.{length, take, drop}
use mir.Syntax.{w64}
use mir.Val.{SFits}
use Rattle.std.specs.Prelude.{Option, Some, None, Result, Ok, Err, SomeIff}
use Rattle.std.specs.Result.{OkIff, result_ok}
use Rattle.std.proofs.lemmas.List.{take_rest}
use Rattle.std.proofs.lemmas.Int.{ints}
use Rattle.refusal.specs.Paper.{pick}
use Rattle.number.specs.Bytes.{is_minus, starts}
use Rattle.number.specs.Grammar.{after_sign, is_decimal, value, is_up_to}
use Rattle.number.specs.Number.{is_uint64, is_int64, int64_of}
use Rattle.number.specs.Places.{Leaves, up_to, uint64_in, int64_in}
use Rattle.number.proofs.Classes.{and_left}
use Rattle.number.proofs.Values.{up_to_true, up_to_value, up_to_bad}

-- what stands behind the sign
pub behind : (t : List ℕ) (a : ℕ) → Leaves t 0 (after_sign t) a → take (length t - a) (drop a t) ≡ after_sign t
behind t a e = take_rest t a ∙ e.rest

-- what digits that write a number to a limit say of a smaller one
module _ (n k : ℕ) (h : k ≤ n) (l : List ℕ) where
  fewer : (d : Bool) (v : ℕ) → (d && leb v n) ≡ false → (d && leb v k) ≡ false
  fewer false v e = refl
  fewer true v e = lt-leb v k (omega (arith, leb-false v n e))

  pub less_none : None ≡ up_to n l → is_up_to k l ≡ false
  unfolding is_up_to
  less_none e = fewer (is_decimal l) (value l) (up_to_bad n l (sym e))

  pub less_some : (v : ℕ) → Some v ≡ up_to n l → is_up_to k l ≡ leb v k
  unfolding is_up_to
  less_some v e = rw (and_left (is_decimal l) _ (up_to_true n l v (sym e)), up_to_value n l v (sym e))

neg_fits : (v : ℕ) → v ≤ 2 ^ 63 → SFits w64 (pos 0 -ℤ pos v)
neg_fits v h = grind (arith, ints)

neg_within : (v : ℕ) → SFits w64 (pos 0 -ℤ pos v) → v ≤ 2 ^ 63
neg_within v h = grind (arith, ints)

neg_is : (v : ℕ) → pos 0 -ℤ pos v ≡ neg_ℤ (pos v)
neg_is v = grind (arith, ints)

pos_within : (v : ℕ) → SFits w64 (pos v) → v ≤ 2 ^ 63 - 1
pos_within v h = grind (arith, ints)

pos_fits : (v : ℕ) → v ≤ 2 ^ 63 - 1 → SFits w64 (pos v)
pos_fits v h = grind (arith, ints)

-- a signed number of a magnitude, where it fits
pub minus_case : (v : ℕ) (r : Option ℤ) → SomeIff r (SFits w64 (pos 0 -ℤ pos v)) (pos 0 -ℤ pos v) → r ≡ pick (leb v (2 ^ 63)) (Some (neg_ℤ (pos v))) None
minus_case v None h = go (leb v (2 ^ 63)) refl
  where
    go : (q : Bool) → leb v (2 ^ 63) ≡ q → None ≡ pick q (Some (neg_ℤ (pos v))) None
    go true e = absurd (h (neg_fits v (leb-true v (2 ^ 63) e)))
    go false e = refl
minus_case v (Some z) h = rw (le-leb v (2 ^ 63) (neg_within v h.0), h.1, neg_is v)

pub plus_case : {E : Type 0} (v : ℕ) (r : Result ℤ E) → OkIff r (SFits w64 (pos v)) (pos v) → result_ok r ≡ pick (leb v (2 ^ 63 - 1)) (Some (pos v)) None
plus_case v (Err x) h = go (leb v (2 ^ 63 - 1)) refl
  where
    go : (q : Bool) → leb v (2 ^ 63 - 1) ≡ q → None ≡ pick q (Some (pos v)) None
    go true e = absurd (h (pos_fits v (leb-true v (2 ^ 63 - 1) e)))
    go false e = refl
plus_case v (Ok z) h = rw (le-leb v (2 ^ 63 - 1) (pos_within v h.0), h.1)

pub unsigned_minus : (t : List ℕ) → starts is_minus t ≡ true → None ≡ uint64_in t
unfolding is_uint64
unsigned_minus t m = rw m

module _ (t x : List ℕ) (xe : x ≡ after_sign t) where
  pub unsigned_plus : starts is_minus t ≡ false → up_to (2 ^ 64 - 1) x ≡ uint64_in t
  unfolding is_uint64 up_to
  unsigned_plus m = rw (m, xe)

  pub signed_none : None ≡ up_to (2 ^ 64 - 1) x → None ≡ int64_in t
  unfolding is_int64
  signed_none e = rw (← xe, less_none (2 ^ 64 - 1) (2 ^ 63) (omega arith) x e, less_none (2 ^ 64 - 1) (2 ^ 63 - 1) (omega arith) x e) (go (starts is_minus t))
    where
      go : (q : Bool) → None ≡ pick (pick q false false) (Some (int64_of t)) None
      go true = refl
      go false = refl

  module _ (v : ℕ) (e : Some v ≡ up_to (2 ^ 64 - 1) x) (r : Option ℤ) where
    pub signed_minus : starts is_minus t ≡ true → r ≡ pick (leb v (2 ^ 63)) (Some (neg_ℤ (pos v))) None → r ≡ int64_in t
    unfolding is_int64 int64_of
    signed_minus m k = k ∙ rw (m, ← xe, less_some (2 ^ 64 - 1) (2 ^ 63) (omega arith) x v e, up_to_value (2 ^ 64 - 1) x v (sym e))

    pub signed_plus : starts is_minus t ≡ false → r ≡ pick (leb v (2 ^ 63 - 1)) (Some (pos v)) None → r ≡ int64_in t
    unfolding is_int64 int64_of
    signed_plus m k = k ∙ rw (m, ← xe, less_some (2 ^ 64 - 1) (2 ^ 63 - 1) (omega arith) x v e, up_to_value (2 ^ 64 - 1) x v (sym e))
