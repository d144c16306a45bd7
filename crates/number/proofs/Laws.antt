-- What callers need of a number: where its token lies, which tokens and refusals there are, and what the end alone tells.
-- Assumes nothing.
use mathlib.Core.Path.{◌≡◌, refl, sym, ap, ◌∙◌}
use mathlib.Core.Bool.{Bool, true, false}
use mathlib.Core.List.{List, [], ◌∷◌}
use mathlib.Core.Logic.{◌⊎◌, inl, inr, ⊎_elim}
use Prim.Native.Nat.{ℕ, ◌+◌, ◌-◌, ◌≤◌, ◌<◌}
use native.Mathlib.Omega.{arith}
use borrow.Author.Tests.{ltb-true, ltb-false, eqb-true, eqb-false}
use lib.Dec.{ltb, eqb}
use lib.IntN.{ℤ}
use Rattle.std.specs.Prelude.{Some, None}
use lib.ListN.{length, drop, length-append, length-drop}
use Rattle.refusal.specs.Numbers.{bad_uint64, bad_double, bad_int64, beyond_slice}
use Rattle.refusal.specs.Paper.{Paper, gives, more, refused, Spot, spot, pick}
use Rattle.token.specs.Meaning.{kind_of}
use Rattle.token.specs.declared.Token.{Token}
use Rattle.token.specs.declared.Token.TheVariants.{Int64, Uint64, Decimal}
use Rattle.token.specs.declared.Kind.TheVariants.{Scalar}
use Rattle.number.specs.Bytes.{is_text, is_pointed, is_unsigned, starts, any}
use Rattle.number.specs.Grammar.{front, past, after_sign, value, is_double, double_left, mantissa_left, point_left, is_up_to, is_decimal}
use Rattle.token.specs.Ends.{end_of}
use Rattle.number.specs.Number.{is_uint64, is_int64, int64_of, uint64_text, double_text, int64_text, number_text, number_of, number_at}
use Rattle.number.proofs.Runs.{front_past}
use Rattle.number.proofs.Tokens.{beyond, ended, inside}

-- the tokens of numbers
pub data Numeric : Token → Type 0 where
  int64 : (z : ℤ) → Numeric (Int64 z)
  uint64 : (n : ℕ) → Numeric (Uint64 n)
  decimal : (start len : ℕ) → Numeric (Decimal start len)

pub numeric_scalar : {t : Token} → Numeric t → kind_of t ≡ Scalar
numeric_scalar (int64 z) = refl
numeric_scalar (uint64 n) = refl
numeric_scalar (decimal start len) = refl

-- where the token of a number lies
pub record Lies (s : List ℕ) (at : ℕ) (t : Token) (first next : ℕ) : Type 0 where
  pub here : first ≡ at
  pub grows : at < next
  pub within : next ≤ length s
  pub numeric : Numeric t

-- the refusals of number text, each at the number's first byte
pub data BadNumber (at : ℕ) : ℕ → List ℕ → Type 0 where
  bad_uint64_lem : BadNumber at bad_uint64 (at ∷ [])
  bad_double_lem : BadNumber at bad_double (at ∷ [])
  bad_int64_lem : BadNumber at bad_int64 (at ∷ [])

-- why there is no number at a place
pub data NoNumber (s : List ℕ) (at : ℕ) : ℕ → List ℕ → Type 0 where
  outside : length s < at → NoNumber s at beyond_slice []
  bad : {n : ℕ} {vs : List ℕ} → at < length s → BadNumber at n vs → NoNumber s at n vs

-- ---- an answer that a test decides

record Same (t₀ : Token) (at₀ n₀ : ℕ) (t : Token) (at n : ℕ) : Type 0 where
  pub token : t₀ ≡ t
  pub first : at₀ ≡ at
  pub next : n₀ ≡ n

module _ (t₀ : Token) (at₀ n₀ k₀ : ℕ) (vs₀ : List ℕ) where
  answer_true : (q : Bool) (t : Token) (a n : ℕ) → pick q (gives (spot t₀ at₀ n₀)) (refused k₀ vs₀) ≡ gives (spot t a n) → q ≡ true
  answer_true true t a n e = refl
  answer_true false t a n e = cc

  answer_same : (q : Bool) (t : Token) (a n : ℕ) → pick q (gives (spot t₀ at₀ n₀)) (refused k₀ vs₀) ≡ gives (spot t a n) → Same t₀ at₀ n₀ t a n
  answer_same true t a n e = record { token = (cc); first = (cc); next = (cc) }
  answer_same false t a n e = cc

  answer_refused : (at : ℕ) → BadNumber at k₀ vs₀ → (q : Bool) (k : ℕ) (vs : List ℕ) → pick q (gives (spot t₀ at₀ n₀)) (refused k₀ vs₀) ≡ refused k vs → BadNumber at k vs
  answer_refused at d true k vs e = cc
  answer_refused at d false k vs e = let f : k₀ ≡ k = cc in let g : vs₀ ≡ vs = cc in rw (← f, ← g) d

  answer_settled : (q : Bool) → pick q (gives (spot t₀ at₀ n₀)) (refused k₀ vs₀) ≡ more → ⊥
  answer_settled true e = cc
  answer_settled false e = cc

-- ---- the answer for number text

some_int : (l : List ℕ) → is_int64 l ≡ true → 0 < length l
unfolding is_int64 is_up_to is_decimal after_sign
some_int [] e = cc
some_int (b ∷ l) e = omega arith

some_double : (l : List ℕ) → is_double l ≡ true → 0 < length l
unfolding is_double double_left mantissa_left point_left past after_sign
some_double [] e = cc
some_double (b ∷ l) e = omega arith

-- what an accepted text says of its token
record Judged (at end : ℕ) (t : Token) (first next : ℕ) : Type 0 where
  pub here : first ≡ at
  pub grows : at < next
  pub ends : end ≡ next
  pub numeric : Numeric t

module _ (at : ℕ) (l : List ℕ) (t : Token) (a n : ℕ) where
  judged : (end : ℕ) (t₀ : Token) → Numeric t₀ → at < end → Same t₀ at end t a n → Judged at end t a n
  judged end t₀ k g e = record { here = sym e.first; grows = omega (arith, e.next); ends = e.next; numeric = rw e.token at k }

  judged_uint : uint64_text at (at + length l + 1) l ≡ gives (spot t a n) → Judged at (at + length l + 1) t a n
  unfolding uint64_text
  judged_uint e = judged _ _ (uint64 (value (after_sign l))) (omega arith) (answer_same _ _ _ _ _ (is_uint64 l) t a n e)

  judged_int : int64_text at (at + length l) l ≡ gives (spot t a n) → Judged at (at + length l) t a n
  unfolding int64_text
  judged_int e = judged _ _ (int64 (int64_of l)) (omega (arith, some_int l (answer_true _ _ _ _ _ (is_int64 l) t a n e))) (answer_same _ _ _ _ _ (is_int64 l) t a n e)

  judged_double : double_text at (at + length l) l ≡ gives (spot t a n) → Judged at (at + length l) t a n
  unfolding double_text
  judged_double e = judged _ _ (decimal at (length l)) (omega (arith, some_double l (answer_true _ _ _ _ _ (is_double l) t a n e))) (answer_same _ _ _ _ _ (is_double l) t a n e)

  judged_signed : number_text at false l ≡ gives (spot t a n) → Judged at (at + length l) t a n
  unfolding number_text
  judged_signed e = go (any is_pointed l) e
    where
      go : (q : Bool) → pick q (double_text at (at + length l) l) (int64_text at (at + length l) l) ≡ gives (spot t a n) → Judged at (at + length l) t a n
      go true e = judged_double e
      go false e = judged_int e

module _ (at : ℕ) (l : List ℕ) where
  refused_signed : (q : Bool) (k : ℕ) (vs : List ℕ) → pick q (double_text at (at + length l) l) (int64_text at (at + length l) l) ≡ refused k vs → BadNumber at k vs
  unfolding double_text int64_text
  refused_signed true k vs e = answer_refused _ _ _ _ _ at bad_double_lem (is_double l) k vs e
  refused_signed false k vs e = answer_refused _ _ _ _ _ at bad_int64_lem (is_int64 l) k vs e

  refused_text : (u : Bool) (k : ℕ) (vs : List ℕ) → number_text at u l ≡ refused k vs → BadNumber at k vs
  unfolding number_text uint64_text
  refused_text true k vs e = answer_refused _ _ _ _ _ at bad_uint64_lem (is_uint64 l) k vs e
  refused_text false k vs e = refused_signed (any is_pointed l) k vs e

  settled_signed : (q : Bool) → pick q (double_text at (at + length l) l) (int64_text at (at + length l) l) ≡ more → ⊥
  unfolding double_text int64_text
  settled_signed true e = answer_settled _ _ _ _ _ (is_double l) e
  settled_signed false e = answer_settled _ _ _ _ _ (is_int64 l) e

  settled_text : (u : Bool) → number_text at u l ≡ more → ⊥
  unfolding number_text uint64_text
  settled_text true e = answer_settled _ _ _ _ _ (is_uint64 l) e
  settled_text false e = settled_signed (any is_pointed l) e

-- ---- the answer at a place

three : (m n : ℕ) → (m < n) ⊎ ((m ≡ n) ⊎ (n < m))
three m n = go (ltb m n) (eqb m n) refl refl
  where
    go : (p q : Bool) → ltb m n ≡ p → eqb m n ≡ q → (m < n) ⊎ ((m ≡ n) ⊎ (n < m))
    go true q d e = inl (ltb-true m n d)
    go false true d e = inr (inl (eqb-true m n e))
    go false false d e = let f = eqb-false m n e in inr (inr (omega (arith, ltb-false m n d)))

unsigned_some : (l : List ℕ) → starts is_unsigned l ≡ true → 0 < length l
unsigned_some [] e = cc
unsigned_some (b ∷ l) e = omega arith

module _ (s : List ℕ) (at : ℕ) where
  -- the text and what stands behind it are the rest of the slice
  both_lengths : length (front is_text (drop at s)) + length (past is_text (drop at s)) ≡ length s - at
  both_lengths = simp (length-append, length-drop) at (ap length (front_past is_text (drop at s)))

  module _ (t : Token) (a n : ℕ) where
    lies_inside : at < length s → number_of at (drop at s) ≡ gives (spot t a n) → Lies s at t a n
    unfolding number_of number_text
    lies_inside h e = go (starts is_unsigned (past is_text (drop at s))) refl e
      where
        go : (u : Bool) → starts is_unsigned (past is_text (drop at s)) ≡ u → number_text at u (front is_text (drop at s)) ≡ gives (spot t a n) → Lies s at t a n
        go true k e =
            let j = judged_uint at (front is_text (drop at s)) t a n e in
            record { here = j.here; grows = j.grows; within = omega (arith, j.ends, both_lengths, unsigned_some (past is_text (drop at s)) k); numeric = j.numeric }
        go false k e =
            let j = judged_signed at (front is_text (drop at s)) t a n e in
            record { here = j.here; grows = j.grows; within = omega (arith, j.ends, both_lengths); numeric = j.numeric }

    -- a number's token starts at its place, is not empty, and ends within the slice
    pub number_lies : number_at s at ≡ gives (spot t a n) → Lies s at t a n
    number_lies e =
        ⊎_elim (λ h. cc (beyond s at h))
        (⊎_elim (λ h. cc (ended s at h)) (λ h. lies_inside h (inside s at h ∙ e)))
        (three (length s) at)

  -- a refusal of number text is 6, 7 or 8 at the place; 26 beyond the slice
  pub number_refused : (k : ℕ) (vs : List ℕ) → number_at s at ≡ refused k vs → NoNumber s at k vs
  unfolding number_of
  number_refused k vs e =
      ⊎_elim (λ h. let f = beyond s at h in let g : beyond_slice ≡ k = cc in let i : [] ≡ vs = cc in rw (← g, ← i) (outside h))
      (⊎_elim (λ h. cc (ended s at h))
      (λ h. bad h (refused_text at (front is_text (drop at s)) (starts is_unsigned (past is_text (drop at s))) k vs (inside s at h ∙ e))))
      (three (length s) at)

  -- a byte settles a number: more bytes are never needed
  pub number_settled : at < length s → number_at s at ≡ more → ⊥
  unfolding number_of
  number_settled h e = settled_text at (front is_text (drop at s)) (starts is_unsigned (past is_text (drop at s))) (inside s at h ∙ e)

  -- an end is that of a number's token
  pub end_gives : (n : ℕ) → end_of (number_at s at) ≡ Some n → (t : Token) × (number_at s at ≡ gives (spot t at n))
  end_gives n e = go (number_at s at) refl e
    where
      go : (r : Paper (Spot Token)) → number_at s at ≡ r → end_of r ≡ Some n → (t : Token) × (number_at s at ≡ gives (spot t at n))
      go (gives (spot t a m)) f g = let i : m ≡ n = cc in (t, f ∙ rw ((number_lies t a m f).here, i))
      go more f g = cc
      go (refused q vs) f g = cc

  -- where there is none there is no token
  pub end_none : end_of (number_at s at) ≡ None → (t : Token) (a n : ℕ) → number_at s at ≡ gives (spot t a n) → ⊥
  end_none e t a n f = let z : Some n ≡ None = sym (ap end_of f) ∙ e in cc
