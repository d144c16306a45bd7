-- A mark in the top bit of each byte of a kind: the marks of a word say where the first one is.
use mathlib.Core.Path.{◌≡◌, refl, sym, ap, ◌∙◌}
use mathlib.Core.Bool.{Bool, true, false, cond}
use mathlib.Core.List.{List}
use Prim.Native.Nat.{ℕ, zero, suc, ◌+◌, ◌*◌, ◌/◌, ◌≤◌, ◌<◌}
use native.Mathlib.Nat.{add-zero}
use native.Mathlib.Omega.{arith}
use lib.Count.{count_trailing_zeros}
use lib.ListN.{length, get_or}
use lib.Dec.{eqb}
use borrow.Author.Tests.{eqb-true, eqb-false}
use Rattle.search.specs.First.{first_from, Before}
use Rattle.word.specs.Word.{marks_at}
use Rattle.word.proofs.Marks.{plus, bits_of, zeros_none, zeros_mark}
use Rattle.search.proofs.Laws.{first_here, first_more}

-- one byte: its mark t, the marks m of the bytes behind it
module _ (f : ℕ → Bool) (s : List ℕ) (p : ℕ) (h : p < length s) (m : ℕ) where
  pub none_byte : (t : Bool) → f (get_or s p 0) ≡ t → m * 256 + cond t 128 0 ≡ 0 → (m ≡ 0) × (first_from f s (p + 1) ≡ first_from f s p)
  none_byte true e z = absurd (omega arith)
  none_byte false e z = (omega arith, first_more f s p h e)

  pub some_byte : (k : ℕ) (t : Bool) → f (get_or s p 0) ≡ t → ((m ≡ 0 → ⊥) → p + 1 + count_trailing_zeros k m / 8 ≡ first_from f s (p + 1))
      → (m * 256 + cond t 128 0 ≡ 0 → ⊥) → p + count_trailing_zeros (plus 8 k) (m * 256 + cond t 128 0) / 8 ≡ first_from f s p
  some_byte k true e r n = rw zeros_mark (add-zero p ∙ first_here f s p h e)
  some_byte k false e r n = rw zeros_none (place ∙ r (λ z. n (omega arith)) ∙ first_more f s p h e)
    where
      place : p + plus 8 (count_trailing_zeros k m) / 8 ≡ p + 1 + count_trailing_zeros k m / 8
      place = omega arith

module _ (f : ℕ → Bool) (s : List ℕ) where
  pub marks_none : (n p : ℕ) → p + n ≤ length s → marks_at f n s p ≡ 0 → first_from f s (p + n) ≡ first_from f s p
  unfolding marks_at
  marks_none zero p h e = rw add-zero
  marks_none (suc n) p h e =
      let b : (marks_at f n s (p + 1) ≡ 0) × (first_from f s (p + 1) ≡ first_from f s p) = none_byte f s p (omega arith) _ _ refl e in
      ap (first_from f s) place ∙ marks_none n (p + 1) (omega arith) b.0 ∙ b.1
    where
      place : p + suc n ≡ p + 1 + n
      place = omega arith

  pub marks_some : (n p : ℕ) → p + n ≤ length s → (marks_at f n s p ≡ 0 → ⊥) → p + count_trailing_zeros (bits_of n) (marks_at f n s p) / 8 ≡ first_from f s p
  unfolding marks_at
  marks_some zero p h e = absurd (e refl)
  marks_some (suc n) p h e = some_byte f s p (omega arith) _ (bits_of n) _ refl (λ k. marks_some n (p + 1) (omega arith) k) e

-- the lowest mark is one of those there are
lt_byte : (m k : ℕ) (t : Bool) (n : ℕ) → ((m ≡ 0 → ⊥) → count_trailing_zeros k m / 8 < n) → (m * 256 + cond t 128 0 ≡ 0 → ⊥)
    → count_trailing_zeros (plus 8 k) (m * 256 + cond t 128 0) / 8 < suc n
lt_byte m k true n r e = rw zeros_mark (omega arith)
lt_byte m k false n r e = rw zeros_none (omega (arith, r (λ z. e (omega arith))))

marks_lt : (f : ℕ → Bool) (s : List ℕ) (n p : ℕ) → (marks_at f n s p ≡ 0 → ⊥) → count_trailing_zeros (bits_of n) (marks_at f n s p) / 8 < n
unfolding marks_at
marks_lt f s zero p e = absurd (e refl)
marks_lt f s (suc n) p e = lt_byte (marks_at f n s (p + 1)) (bits_of n) (f (get_or s p 0)) n (marks_lt f s n (p + 1)) e

-- ---- a word of eight
module _ (f : ℕ → Bool) (s : List ℕ) (p m : ℕ) (h : p + 8 ≤ length s) (e : m ≡ marks_at f 8 s p) where
  pub word_none : m ≡ 0 → first_from f s (p + 8) ≡ first_from f s p
  word_none z = marks_none f s 8 p h (sym e ∙ z)

  pub word_some : (m ≡ 0 → ⊥) → (k : ℕ) → k ≡ count_trailing_zeros 64 m / 8 → p + k ≡ first_from f s p
  word_some n k t = rw (t, e) (marks_some f s 8 p h (λ z. n (e ∙ z)))

  pub word_lt : (m ≡ 0 → ⊥) → (k : ℕ) → k ≡ count_trailing_zeros 64 m / 8 → k < 8
  word_lt n k t = rw (t, e) (marks_lt f s 8 p (λ z. n (e ∙ z)))

  -- what stands before the first of the eight
  pub word_before : (k : ℕ) → k ≡ count_trailing_zeros 64 m / 8 → Before f s p 8 k
  unfolding count_trailing_zeros
  word_before k t = go (eqb m 0) refl
    where
      go : (q : Bool) → eqb m 0 ≡ q → Before f s p 8 k
      go true z = let none : m ≡ 0 = eqb-true _ _ z in let all : k ≡ 8 = t ∙ ap (λ (x : ℕ). count_trailing_zeros 64 x / 8) none in (λ h. absurd (omega arith), λ h. word_none none, omega arith)
      go false z = let some : m ≡ 0 → ⊥ = eqb-false _ _ z in (λ h. word_some some k t, λ h. absurd (omega (arith, word_lt some k t)), omega (arith, word_lt some k t))
