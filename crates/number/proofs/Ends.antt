-- The parts of the grammar by place: each way through a function that answers the place behind a part. Assumes nothing.
use mathlib.Core.Path.{◌≡◌, refl, sym, ap, ◌∙◌}
use mathlib.Core.Bool.{Bool, true, false, ◌||◌}
use mathlib.Core.List.{List, [], ◌∷◌}
use Prim.Native.Nat.{ℕ, ◌+◌, ◌-◌, ◌≤◌, ◌<◌}
use native.Mathlib.Omega.{arith}
use native.Mathlib.Nat.{eq-or-lt_of_le}
use mathlib.Core.Logic.{◌⊎◌, inl, inr, ⊎_elim}
use borrow.Author.Tests.{lt-ltb, le-ltb, ltb-false, eq-eqb, ne_eqb, not-true, not-false}
use lib.Dec.{ltb, eqb}
use lib.ListN.{length, get_or, drop, drop_of_length-le, length-drop}
use Rattle.std.specs.Prelude.{Option, Some, None, IfSome, MatchOption}
use Rattle.std.specs.Bool.{then_some}
use Rattle.std.specs.Option.{option_eq}
use Rattle.search.proofs.Laws.{drop_more}
use Rattle.refusal.specs.Paper.{pick}
use Rattle.refusal.proofs.Cases.{either}
use Rattle.marks.specs.Classes.{is_other}
use Rattle.search.specs.First.{first_from}
use Rattle.search.proofs.Laws.{first_found, same_at_first, from_ge, from_le}
use Rattle.token.specs.Digits.{is_digit}
use Rattle.number.specs.Bytes.{is_sign, is_point, is_exponent, starts}
use Rattle.number.specs.Grammar.{past, after_sign, Left, none, left, onward, spent, digits_left, point_left, mantissa_left, exponent_left, double_left, is_double}
use Rattle.number.specs.Places.{Leaves, left_at, MayLeave}
use Rattle.number.proofs.Runs.{past_none, past_one, past_less}

module _ (s : List ℕ) (p : ℕ) where
  pub starts_at : p < length s → (f : ℕ → Bool) → starts f (drop p s) ≡ f (get_or s p 0)
  starts_at h f = rw (drop_more s p h)

  pub starts_out : length s ≤ p → (f : ℕ → Bool) → starts f (drop p s) ≡ false
  starts_out h f = rw (drop_of_length-le s h)

-- ---- a run of bytes of a class

module _ (f : ℕ → Bool) (s : List ℕ) (p : ℕ) where
  pub run_out : length s ≤ p → drop p s ≡ past f (drop p s)
  run_out h = sym (past_none f (drop p s) (starts_out s p h f))

  module _ (h : p < length s) where
    pub run_stop : f (get_or s p 0) ≡ false → drop p s ≡ past f (drop p s)
    run_stop e = sym (past_none f (drop p s) (starts_at s p h f ∙ e))

    pub run_more : f (get_or s p 0) ≡ true → past f (drop (p + 1) s) ≡ past f (drop p s)
    run_more e = sym (past_one f (get_or s p 0) (drop (p + 1) s) e) ∙ ap (past f) (sym (drop_more s p h))

  -- a run of some bytes is one that starts with a byte of the class
  module _ (r : ℕ) (e : Leaves s p (past f (drop p s)) r) where
    same_length : length s - r ≡ length (past f (drop p s))
    same_length = sym (length-drop r s) ∙ ap length e.rest

    go : (q : Bool) → starts f (drop p s) ≡ q → ltb p r ≡ q
    go true k = lt-ltb p r (omega (arith, same_length, past_less f (drop p s) k, length-drop p s, e.low))
    go false k = le-ltb p r (omega (arith, same_length, ap length (past_none f (drop p s) k), length-drop p s, e.low, e.high))

    pub run_some : ltb p r ≡ starts f (drop p s)
    run_some = go (starts f (drop p s)) refl

    pub some_run : p < r → starts f (drop p s) ≡ true
    some_run h = sym run_some ∙ lt-ltb p r h

    pub none_run : r ≤ p → starts f (drop p s) ≡ false
    none_run h = sym run_some ∙ le-ltb p r h

-- a run of digits ends at the first byte that is none
module _ (s : List ℕ) (p : ℕ) where
  at_first : length s ≤ first_from is_other s p ⊎ first_from is_other s p < length s → drop (first_from is_other s p) s ≡ past is_digit (drop (first_from is_other s p) s)
  unfolding is_other is_digit
  at_first (inl h) = run_out is_digit s (first_from is_other s p) h
  at_first (inr h) = run_stop is_digit s (first_from is_other s p) h (not-true _ (first_found is_other s p h))

  past_first : past is_digit (drop p s) ≡ past is_digit (drop (first_from is_other s p) s)
  unfolding is_other is_digit
  past_first = same_at_first is_other s (λ q. past is_digit (drop q s)) (λ q h e. sym (run_more is_digit s q h (not-false _ e))) p

  pub run_first : (r : ℕ) → r ≡ first_from is_other s p → Leaves s p (past is_digit (drop p s)) r
  run_first r e = record {
    rest = ap (λ (q : ℕ). drop q s) e ∙ at_first (either (length s) (first_from is_other s p)) ∙ sym past_first;
    low = omega (arith, from_ge is_other s p);
    high = omega (arith, from_le is_other s p);
  }

-- ---- an optional sign

module _ (s : List ℕ) (p : ℕ) where
  pub sign_there : p < length s → is_sign (get_or s p 0) ≡ true → drop (p + 1) s ≡ after_sign (drop p s)
  unfolding after_sign
  sign_there h e = rw (drop_more s p h, e)

  pub sign_not : p < length s → is_sign (get_or s p 0) ≡ false → drop p s ≡ after_sign (drop p s)
  unfolding after_sign
  sign_not h e = rw (drop_more s p h, e)

  pub sign_out : length s ≤ p → drop p s ≡ after_sign (drop p s)
  unfolding after_sign
  sign_out h = rw (drop_of_length-le s h)

-- a part that stands where a test holds
pub tested : (s : List ℕ) (at : ℕ) (l : Left) (q : Bool) (r : ℕ) → (q ≡ true → left (drop r s) ≡ l) → (q ≡ false → none ≡ l) → r ≤ at + (length s - at) → MayLeave s at l (then_some q r)
tested s at l true r h n k = record { rest = h refl; high = k }
tested s at l false r h n k = record { rest = n refl; high = tt }

-- what holds of a value that is given where a test holds, or kept where one does
pub where_true : (P : ℕ → Type 0) (q : Bool) (v : ℕ) → (q ≡ true → P v) → IfSome (then_some q v) P
where_true P true v h = h refl
where_true P false v h = tt

pub where_kept : (P : ℕ → Type 0) (Q : ℕ → Bool → Type 0) (o r : Option ℕ) → MatchOption o (r ≡ None) (λ x. (q : Bool) × Q x q × (r ≡ then_some q x))
    → ((x : ℕ) → o ≡ Some x → Q x true → P x) → IfSome r P
where_kept P Q None r h k = rw h tt
where_kept P Q (Some x) r h k = rw h.2 (where_true P h.0 x (λ e. k x refl (rw e at h.1)))

-- ---- exponents

module _ (s : List ℕ) (p : ℕ) where
  pub exponent_out : length s ≤ p → left (drop p s) ≡ exponent_left (drop p s)
  unfolding exponent_left
  exponent_out h = rw (drop_of_length-le s h)

  module _ (h : p < length s) where
    pub exponent_not : is_exponent (get_or s p 0) ≡ false → left (drop p s) ≡ exponent_left (drop p s)
    unfolding exponent_left
    exponent_not e = rw (drop_more s p h, e)

    module _ (e : is_exponent (get_or s p 0) ≡ true) (a b : ℕ) (ae : Leaves s (p + 1) (after_sign (drop (p + 1) s)) a) (be : Leaves s a (past is_digit (drop a s)) b) where
      digits : exponent_left (drop p s) ≡ digits_left (drop a s)
      unfolding exponent_left
      digits = rw (drop_more s p h, e) (ap digits_left (sym ae.rest))

      pub exponent_some : a < b → left (drop b s) ≡ exponent_left (drop p s)
      unfolding digits_left
      exponent_some k = sym (digits ∙ rw (some_run is_digit s a b be k, ← be.rest))

      pub exponent_none : b ≤ a → none ≡ exponent_left (drop p s)
      unfolding digits_left
      exponent_none k = sym (digits ∙ rw (none_run is_digit s a b be k))

-- ---- digits with at most one point

module _ (s : List ℕ) (a b : ℕ) (e : Leaves s a (past is_digit (drop a s)) b) where
  at_point : mantissa_left (drop a s) ≡ point_left (ltb a b) (drop b s)
  unfolding mantissa_left
  at_point = rw (← e.rest, ← run_some is_digit s a b e)

  plain_any : (q : Bool) (l : List ℕ) → starts is_point l ≡ false → point_left q l ≡ pick q (left l) none
  unfolding point_left
  plain_any q [] n = refl
  plain_any q (k ∷ l) n = rw n

  module _ (n : starts is_point (drop b s) ≡ false) where
    pub plain_some : a < b → left (drop b s) ≡ mantissa_left (drop a s)
    plain_some k = sym (at_point ∙ plain_any (ltb a b) (drop b s) n ∙ rw (lt-ltb a b k))

    pub plain_none : b ≤ a → none ≡ mantissa_left (drop a s)
    plain_none k = sym (at_point ∙ plain_any (ltb a b) (drop b s) n ∙ rw (le-ltb a b k))

  module _ (h : b < length s) (n : is_point (get_or s b 0) ≡ true) (d : ℕ) (de : Leaves s (b + 1) (past is_digit (drop (b + 1) s)) d) where
    pointed : mantissa_left (drop a s) ≡ pick (ltb a b || ltb (b + 1) d) (left (drop d s)) none
    unfolding point_left
    pointed = at_point ∙ rw (drop_more s b h, n, ← de.rest, ← run_some is_digit s (b + 1) d de)

    pub pointed_none : d ≡ a + 1 → none ≡ mantissa_left (drop a s)
    pointed_none k = sym (pointed ∙ rw (le-ltb a b (omega (arith, de.low)), le-ltb (b + 1) d (omega (arith, e.low))))

    go_some : (q : Bool) → ltb a b ≡ q → (d ≡ a + 1 → ⊥) → pick (q || ltb (b + 1) d) (left (drop d s)) none ≡ left (drop d s)
    go_some true k m = refl
    go_some false k m = rw (lt-ltb (b + 1) d (omega (arith, ltb-false a b k, e.low, de.low)))

    pub pointed_some : (d ≡ a + 1 → ⊥) → left (drop d s) ≡ mantissa_left (drop a s)
    pointed_some m = sym (pointed ∙ go_some (ltb a b) refl m)

-- ---- text that is a double's, whole

module _ (t : List ℕ) (a : ℕ) (ae : Leaves t 0 (after_sign t) a) where
  double_left_lem : (r : Option ℕ) → MayLeave t a (onward exponent_left (mantissa_left (drop a t))) r → double_left t ≡ left_at t r
  unfolding double_left
  double_left_lem r re = ap (λ (k : List ℕ). onward exponent_left (mantissa_left k)) (sym ae.rest) ∙ sym re.rest

  spent_at : (r : ℕ) → r ≤ length t → spent (left (drop r t)) ≡ eqb r (length t)
  spent_at r h = ⊎_elim (λ k. rw (eq-eqb r (length t) k, drop_of_length-le t {i = r} (omega arith))) (λ k. rw (ne_eqb r (length t) (λ z. omega arith), drop_more t r k)) (eq-or-lt_of_le h)

  pub double_whole : (r : Option ℕ) → MayLeave t a (onward exponent_left (mantissa_left (drop a t))) r → option_eq eqb r (Some (length t)) ≡ is_double t
  unfolding is_double
  double_whole None re = sym (ap spent (double_left_lem None re))
  double_whole (Some r) re = sym (ap spent (double_left_lem (Some r) re) ∙ spent_at r (omega (arith, re.high, ae.high)))
