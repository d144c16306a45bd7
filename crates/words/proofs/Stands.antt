-- Bytes that stand at a place, by the library's test. Assumes nothing.
use mathlib.Core.Path.{◌≡◌, refl}
use mathlib.Core.Bool.{Bool, true, false, ◌&&◌}
use mathlib.Core.List.{List, [], ◌∷◌}
use Prim.Native.Nat.{ℕ, suc, ◌+◌, ◌-◌, ◌≤◌, ◌<◌}
use native.Mathlib.Omega.{arith}
use lib.Dec.{eqb}
use borrow.Author.Tests.{ne_eqb}
use lib.ListN.{length, get_or, take, drop, length-drop, drop_of_length-le}
use Rattle.search.proofs.Laws.{drop_more}
use Rattle.std.specs.List.{starts_with}
use Rattle.std.proofs.lemmas.List.{take_rest}
use Rattle.std.proofs.lemmas.Bool.Decides.{nat_tests}
use Rattle.std.specs.Prelude.{Some, None}
use Rattle.refusal.specs.Paper.{pick}
use Rattle.words.specs.Word.{stands}
use Rattle.words.specs.Cases.{word_in}
use Rattle.words.specs.declared.Word.{Word}
use Rattle.words.specs.declared.Word.TheVariants.{True, False, Nan, Inf, NegInf}

-- a word that stands in front is no longer than what it stands in
pub stands_length : (w t : List ℕ) → stands w t ≡ true → length w ≤ length t
unfolding stands
stands_length [] t e = omega arith
stands_length (a ∷ w) [] e = cc
stands_length (a ∷ w) (b ∷ t) e = go (eqb b a) (stands_length w t) e
  where
    go : (q : Bool) → (stands w t ≡ true → length w ≤ length t) → (q && stands w t) ≡ true → suc (length w) ≤ suc (length t)
    go true h k = omega (arith, h k)
    go false h k = cc

-- the library's test is that of the definition
stands_starts : (w t : List ℕ) → starts_with eqb t w ≡ stands w t
unfolding stands
stands_starts [] t = refl
stands_starts (a ∷ w) [] = refl
stands_starts (a ∷ w) (b ∷ t) = rw (stands_starts w t, same)
  where
    same : eqb a b ≡ eqb b a
    same = grind (arith, nat_tests)

-- ---- a word by its first byte

true_by : (t : List ℕ) → pick (stands (116 ∷ 114 ∷ 117 ∷ 101 ∷ []) (116 ∷ t)) (Some True) None ≡ word_in (116 ∷ t)
unfolding word_in stands
true_by t = refl

false_by : (t : List ℕ) → pick (stands (102 ∷ 97 ∷ 108 ∷ 115 ∷ 101 ∷ []) (102 ∷ t)) (Some False) None ≡ word_in (102 ∷ t)
unfolding word_in stands
false_by t = refl

nan_by : (t : List ℕ) → pick (stands (110 ∷ 97 ∷ 110 ∷ []) (110 ∷ t)) (Some Nan) None ≡ word_in (110 ∷ t)
unfolding word_in stands
nan_by t = refl

inf_by : (t : List ℕ) → pick (stands (105 ∷ 110 ∷ 102 ∷ []) (105 ∷ t)) (Some Inf) None ≡ word_in (105 ∷ t)
unfolding word_in stands
inf_by t = refl

neg_inf_by : (t : List ℕ) → pick (stands (45 ∷ 105 ∷ 110 ∷ 102 ∷ []) (45 ∷ t)) (Some NegInf) None ≡ word_in (45 ∷ t)
unfolding word_in stands
neg_inf_by t = refl

none_by : (b : ℕ) (t : List ℕ) → (b ≡ 116 → ⊥) → (b ≡ 102 → ⊥) → (b ≡ 110 → ⊥) → (b ≡ 105 → ⊥) → (b ≡ 45 → ⊥) → None ≡ word_in (b ∷ t)
unfolding word_in stands
none_by b t h₁ h₂ h₃ h₄ h₅ = rw (ne_eqb b 116 h₁, ne_eqb b 102 h₂, ne_eqb b 110 h₃, ne_eqb b 105 h₄, ne_eqb b 45 h₅)

module _ (s : List ℕ) (p : ℕ) where
  -- the library's test of the bytes from a place on, where their first byte is known
  told : (w : List ℕ) (x : Word) (b : ℕ) → p < length s → get_or s p 0 ≡ b
      → pick (stands w (b ∷ drop (p + 1) s)) (Some x) None ≡ word_in (b ∷ drop (p + 1) s)
      → pick (starts_with eqb (take (length s - p) (drop p s)) w) (Some x) None ≡ word_in (drop p s)
  told w x b h e k = rw (take_rest s p, stands_starts w (drop p s), drop_more s p h, e) k

  pub told_true : p < length s → get_or s p 0 ≡ 116 → pick (starts_with eqb (take (length s - p) (drop p s)) (116 ∷ 114 ∷ 117 ∷ 101 ∷ [])) (Some True) None ≡ word_in (drop p s)
  told_true h e = told _ True _ h e (true_by _)

  pub told_false : p < length s → get_or s p 0 ≡ 102 → pick (starts_with eqb (take (length s - p) (drop p s)) (102 ∷ 97 ∷ 108 ∷ 115 ∷ 101 ∷ [])) (Some False) None ≡ word_in (drop p s)
  told_false h e = told _ False _ h e (false_by _)

  pub told_nan : p < length s → get_or s p 0 ≡ 110 → pick (starts_with eqb (take (length s - p) (drop p s)) (110 ∷ 97 ∷ 110 ∷ [])) (Some Nan) None ≡ word_in (drop p s)
  told_nan h e = told _ Nan _ h e (nan_by _)

  pub told_inf : p < length s → get_or s p 0 ≡ 105 → pick (starts_with eqb (take (length s - p) (drop p s)) (105 ∷ 110 ∷ 102 ∷ [])) (Some Inf) None ≡ word_in (drop p s)
  told_inf h e = told _ Inf _ h e (inf_by _)

  pub told_neg_inf : p < length s → get_or s p 0 ≡ 45 → pick (starts_with eqb (take (length s - p) (drop p s)) (45 ∷ 105 ∷ 110 ∷ 102 ∷ [])) (Some NegInf) None ≡ word_in (drop p s)
  told_neg_inf h e = told _ NegInf _ h e (neg_inf_by _)

  -- no word begins with another byte, or where the bytes end
  pub told_none : p < length s → (get_or s p 0 ≡ 116 → ⊥) → (get_or s p 0 ≡ 102 → ⊥) → (get_or s p 0 ≡ 110 → ⊥) → (get_or s p 0 ≡ 105 → ⊥) → (get_or s p 0 ≡ 45 → ⊥) → None ≡ word_in (drop p s)
  told_none h h₁ h₂ h₃ h₄ h₅ = rw (drop_more s p h) (none_by _ _ h₁ h₂ h₃ h₄ h₅)

  pub told_end : length s ≤ p → None ≡ word_in (drop p s)
  unfolding word_in stands
  told_end h = rw (drop_of_length-le s h)

  -- bytes that lie in what is left from a place on lie within the slice
  pub rest_within : {n : ℕ} → n ≤ length (take (length s - p) (drop p s)) → p ≤ length s → p + n ≤ length s
  rest_within h k = omega (arith, rw take_rest at h, length-drop p s)

  -- and so do bytes that stand there
  pub stands_within : (w : List ℕ) → stands w (drop p s) ≡ true → p ≤ length s → p + length w ≤ length s
  stands_within w e h = omega (arith, stands_length w (drop p s) e, length-drop p s)
