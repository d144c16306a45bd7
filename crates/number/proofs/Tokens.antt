-- Each way to the answer about a number: from what its text says, and from the place where its text ends. Assumes nothing.
use mathlib.Core.Path.{◌≡◌, refl, sym, ap, ◌∙◌}
use mathlib.Core.Bool.{Bool, true, false}
use mathlib.Core.List.{List, [], ◌∷◌, ◌++◌}
use Prim.Native.Nat.{ℕ, ◌+◌, ◌-◌, ◌≤◌, ◌<◌}
use native.Mathlib.Omega.{arith}
use borrow.Author.Tests.{lt-ltb, le-ltb, eq-eqb, ne_eqb}
use lib.IntN.{ℤ}
use lib.ListN.{length, drop, take, length-append, length-drop}
use lib.Seq.{take_at}
use Rattle.refusal.specs.Numbers.{bad_uint64, bad_double, bad_int64, beyond_slice}
use Rattle.refusal.specs.Paper.{gives, more, refused, spot, pick}
use Rattle.token.specs.declared.Token.TheVariants.{Int64, Uint64, Decimal}
use Rattle.number.specs.Bytes.{is_pointed, is_text, is_unsigned, starts, any}
use Rattle.number.specs.Grammar.{front, past, after_sign, value, is_double}
use Rattle.number.specs.Number.{is_uint64, is_int64, int64_of, uint64_text, double_text, int64_text, number_text, number_of, number_at}
use Rattle.std.specs.Prelude.{Some, None}
use Rattle.token.specs.declared.Token.{Token}
use Rattle.number.specs.Places.{uint64_in, int64_in}
use Rattle.number.proofs.Runs.{front_past}

-- a test decides whether there is a value, and so whether there is its token
module _ {A : Type 0} (T : A → Token) (k at next : ℕ) where
  given : (q : Bool) (a v : A) → Some v ≡ pick q (Some a) None → gives (spot (T v) at next) ≡ pick q (gives (spot (T a) at next)) (refused k (at ∷ []))
  given true a v e = let f : v ≡ a = cc in ap (λ (x : A). gives (spot (T x) at next)) f
  given false a v e = cc

  refusal : (q : Bool) (a : A) → None ≡ pick q (Some a) None → refused k (at ∷ []) ≡ pick q (gives (spot (T a) at next)) (refused k (at ∷ []))
  refusal true a e = cc
  refusal false a e = refl

module _ (at next : ℕ) (l : List ℕ) where
  pub uint_some : (v : ℕ) → Some v ≡ uint64_in l → gives (spot (Uint64 v) at next) ≡ uint64_text at next l
  unfolding uint64_text
  uint_some v e = given (λ (n : ℕ). Uint64 n) bad_uint64 at next (is_uint64 l) (value (after_sign l)) v e

  pub uint_none : None ≡ uint64_in l → refused bad_uint64 (at ∷ []) ≡ uint64_text at next l
  unfolding uint64_text
  uint_none e = refusal (λ (n : ℕ). Uint64 n) bad_uint64 at next (is_uint64 l) (value (after_sign l)) e

  pub int_some : (z : ℤ) → Some z ≡ int64_in l → gives (spot (Int64 z) at next) ≡ int64_text at next l
  unfolding int64_text
  int_some z e = given (λ (n : ℤ). Int64 n) bad_int64 at next (is_int64 l) (int64_of l) z e

  pub int_none : None ≡ int64_in l → refused bad_int64 (at ∷ []) ≡ int64_text at next l
  unfolding int64_text
  int_none e = refusal (λ (n : ℤ). Int64 n) bad_int64 at next (is_int64 l) (int64_of l) e

  pub double_yes : is_double l ≡ true → gives (spot (Decimal at (length l)) at next) ≡ double_text at next l
  unfolding double_text
  double_yes e = rw e

  pub double_no : is_double l ≡ false → refused bad_double (at ∷ []) ≡ double_text at next l
  unfolding double_text
  double_no e = rw e

module _ (s : List ℕ) (at : ℕ) where
  pub beyond : length s < at → refused beyond_slice [] ≡ number_at s at
  unfolding number_at
  beyond h = rw (lt-ltb (length s) at h)

  pub ended : length s ≡ at → more ≡ number_at s at
  unfolding number_at
  ended h = rw (le-ltb (length s) at (omega arith), eq-eqb (length s) at h)

  pub inside : at < length s → number_of at (drop at s) ≡ number_at s at
  unfolding number_at
  inside h = rw (le-ltb (length s) at (omega arith), ne_eqb (length s) at (λ e. omega arith))

  -- e is the place where the text ends
  module _ (h : at < length s) (e : ℕ) (low : at ≤ e) (high : e ≤ length s) (rest : drop e s ≡ past is_text (drop at s)) where
    both : front is_text (drop at s) ++ drop e s ≡ drop at s
    both = rw rest (front_past is_text (drop at s))

    pub text_length : length (front is_text (drop at s)) ≡ e - at
    text_length = omega (arith, simp (length-append, length-drop) at (ap length both))

    pub text_part : take (e - at) (drop at s) ≡ front is_text (drop at s)
    text_part = ap (take (e - at)) (sym both) ∙ take_at (front is_text (drop at s)) (drop e s) (e - at) text_length

    text_next : at + length (front is_text (drop at s)) ≡ e
    text_next = omega (arith, text_length)

    pub text_uint : starts is_unsigned (drop e s) ≡ true → uint64_text at (e + 1) (front is_text (drop at s)) ≡ number_at s at
    unfolding number_of number_text
    text_uint u = sym (sym (inside h) ∙ rw (← rest, u, text_next))

    module _ (u : starts is_unsigned (drop e s) ≡ false) where
      pub text_double : any is_pointed (front is_text (drop at s)) ≡ true → double_text at e (front is_text (drop at s)) ≡ number_at s at
      unfolding number_of number_text
      text_double p = sym (sym (inside h) ∙ rw (← rest, u, p, text_next))

      pub text_int : any is_pointed (front is_text (drop at s)) ≡ false → int64_text at e (front is_text (drop at s)) ≡ number_at s at
      unfolding number_of number_text
      text_int p = sym (sym (inside h) ∙ rw (← rest, u, p, text_next))
