-- One digit and then a `;` is a whole number. Assumes nothing.
use mathlib.Core.Path.{◌≡◌, refl, sym, ap, subst, ◌∙◌}
use mathlib.Core.Bool.{Bool, true, false}
use mathlib.Core.List.{List, [], ◌∷◌}
use Prim.Native.Nat.{ℕ, suc, ◌+◌, ◌*◌, ◌-◌, ◌^◌, ◌≤◌, ◌<◌}
use native.Mathlib.Omega.{arith}
use native.Mathlib.Numerals.{add-one}
use borrow.Author.Tests.{le-leb, le-ltb, ne_eqb}
use lib.Dec.{lit≤}
use lib.Seq.{drop-cons}
use Rattle.std.specs.Prelude.{Some}
use lib.ListN.{length, get_or, drop}
use Rattle.refusal.specs.Paper.{Paper, Spot}
use Rattle.token.specs.declared.Token.{Token}
use Rattle.token.specs.Meaning.{kinds_of}
use Rattle.token.specs.Ends.{end_of, scalar_end}
use Rattle.blanks.proofs.Laws.{skip_here}
use Rattle.blanks.proofs.Ways.{blank_above}
use Rattle.token.specs.Digits.{is_digit}
use Rattle.number.specs.Bytes.{is_minus, is_sign, is_exponent, is_pointed, is_text, any, all}
use Rattle.number.specs.Grammar.{front, past, after_sign, value_after, is_decimal, is_up_to}
use Rattle.number.specs.Number.{is_int64, int64_text, number_text, number_of, number_at}
use Rattle.text.specs.Text.{started_at, text_from}
use Rattle.text.proofs.Laws.{something_started, is_number, number_scalar_end}

-- false is not true
IsTrue : Bool → Type 0
IsTrue true = Unit {0}
IsTrue false = ⊥

pub no : {X : Type 0} → false ≡ true → X
unfolding IsTrue
no e = absurd (subst IsTrue (sym e) tt)

semicolon : is_text 59 ≡ false
unfolding is_text is_digit is_sign is_pointed is_exponent
semicolon = refl

module _ (d : ℕ) (a : 48 ≤ d) (b : d ≤ 57) where
  digit : is_digit d ≡ true
  unfolding is_digit
  digit = rw (le-leb 48 d a, le-leb d 57 b)

  no_minus : is_minus d ≡ false
  no_minus = ne_eqb d 45 (λ e. omega arith)

  no_sign : is_sign d ≡ false
  unfolding is_sign
  no_sign = rw (ne_eqb d 43 (λ e. omega arith), no_minus)

  no_point : is_pointed d ≡ false
  unfolding is_pointed is_exponent
  no_point = rw (ne_eqb d 46 (λ e. omega arith), ne_eqb d 101 (λ e. omega arith), ne_eqb d 69 (λ e. omega arith))

  in_text : is_text d ≡ true
  unfolding is_text
  in_text = rw digit refl

  front_is : (l : List ℕ) → front is_text (d ∷ 59 ∷ l) ≡ d ∷ []
  unfolding front
  front_is l = rw (in_text, semicolon)

  past_is : (l : List ℕ) → past is_text (d ∷ 59 ∷ l) ≡ 59 ∷ l
  unfolding past
  past_is l = rw (in_text, semicolon)

  up_to : is_up_to (2 ^ 63 - 1) (d ∷ []) ≡ true
  unfolding is_up_to is_decimal all value_after
  up_to = rw (digit, le-leb (0 * 10 + (d - 48)) (2 ^ 63 - 1) (let k : 57 ≤ 2 ^ 63 - 1 = lit≤ tt in omega (arith, k)))

  is_int : is_int64 (d ∷ []) ≡ true
  unfolding is_int64 after_sign
  is_int = rw (no_minus, no_sign, up_to)

  -- the number that a digit and a `;` are ends behind the digit
  from_digit : (p : ℕ) (l : List ℕ) → end_of (number_of p (d ∷ 59 ∷ l)) ≡ Some (p + 1)
  unfolding number_of number_text int64_text any
  from_digit p l = rw (front_is l, past_is l, no_point, is_int) refl

pub one_digit_lem : (s : List ℕ) (p : ℕ) → p + 1 < length s → 48 ≤ get_or s p 0 → get_or s p 0 ≤ 57 → get_or s (p + 1) 0 ≡ 59 → Some (p + 1) ≡ end_of (number_at s p)
unfolding number_at
one_digit_lem s p h a b e =
    sym
    (rw (le-ltb (length s) p (omega arith), ne_eqb (length s) p (λ q. omega arith))
    (ap (λ (l : List ℕ). end_of (number_of p l)) (drop-cons s p 0 (omega arith) ∙ ap (◌∷◌ (get_or s p 0)) (drop-cons s (suc p) 0 (omega arith) ∙ ap (λ (n : ℕ). n ∷ drop (suc (suc p)) s) (sym (ap (λ (n : ℕ). get_or s n 0) (add-one p)) ∙ e)))
    ∙ from_digit (get_or s p 0) a b p (drop (suc (suc p)) s)))

-- where a digit stands nothing is ignored, and the token is a number
pub digit_token : (s : List ℕ) (p : ℕ) → p < length s → 48 ≤ get_or s p 0 → get_or s p 0 ≤ 57 → end_of (number_at s p) ≡ scalar_end (kinds_of (text_from s p))
unfolding text_from
digit_token s p h a b =
    let d = get_or s p 0 in
    number_scalar_end s p
    ∙ sym
    (ap (λ (q : Paper (Spot Token)). scalar_end (kinds_of q))
    (ap (started_at s) (skip_here s p h (blank_above d (omega arith)) (λ z. omega arith)) ∙ something_started s p h ∙ is_number s p d (λ z. omega arith) (λ z. omega arith) (rw (digit d a b) refl)))
