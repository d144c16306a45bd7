-- Laws of what text ignores, for callers: skipping never goes back nor past the end, a second skip finds nothing, and where a
-- byte stands that is neither a blank nor `/` there is nothing to skip.
use mathlib.Core.Path.{◌≡◌, refl}
use mathlib.Core.Bool.{Bool, true, false}
use mathlib.Core.List.{List, [], ◌∷◌}
use Prim.Native.Nat.{ℕ, suc, ◌≤◌, ◌<◌}
use native.Mathlib.Omega.{arith}
use borrow.Author.Tests.{ne_eqb}
use lib.Dec.{eqb}
use lib.ListN.{length, get_or, drop, drop_of_length-le, length-drop}
use lib.Seq.{drop-cons, drop-drop}
use Rattle.refusal.specs.Paper.{pick}
use Rattle.blanks.specs.Skip.{is_blank, ignored, in_line, in_block, skip_from, slash, star, newline}

-- no more is ignored than there is
mutual
  unfolding ignored

  ignored_within : (l : List ℕ) → ignored l ≤ length l
  ignored_within [] = omega arith
  ignored_within (b ∷ []) = go (is_blank b)
    where
      go : (t : Bool) → pick t 1 0 ≤ 1
      go true = omega arith
      go false = omega arith
  ignored_within (b ∷ (c ∷ l)) = go (is_blank b) (eqb b slash) (eqb c slash) (eqb c star) (ignored_within (c ∷ l)) (in_line_within l) (in_block_within l)
    where
      go : (t u v w : Bool) → ignored (c ∷ l) ≤ suc (length l) → in_line l ≤ length l → in_block l ≤ length l
          → pick t (suc (ignored (c ∷ l))) (pick u (pick v (suc (suc (in_line l))) (pick w (suc (suc (in_block l))) 0)) 0) ≤ suc (suc (length l))
      go true u v w i j k = omega arith
      go false true true w i j k = omega arith
      go false true false true i j k = omega arith
      go false true false false i j k = omega arith
      go false false v w i j k = omega arith

  in_line_within : (l : List ℕ) → in_line l ≤ length l
  in_line_within [] = omega arith
  in_line_within (b ∷ l) = go (eqb b newline) (ignored_within l) (in_line_within l)
    where
      go : (t : Bool) → ignored l ≤ length l → in_line l ≤ length l → pick t (suc (ignored l)) (suc (in_line l)) ≤ suc (length l)
      go true i j = omega arith
      go false i j = omega arith

  in_block_within : (l : List ℕ) → in_block l ≤ length l
  in_block_within [] = omega arith
  in_block_within (b ∷ []) = omega arith
  in_block_within (b ∷ (c ∷ l)) = go (eqb b star) (eqb c slash) (ignored_within l) (in_block_within (c ∷ l))
    where
      go : (t u : Bool) → ignored l ≤ length l → in_block (c ∷ l) ≤ suc (length l)
          → pick t (pick u (suc (suc (ignored l))) (suc (in_block (c ∷ l)))) (suc (in_block (c ∷ l))) ≤ suc (suc (length l))
      go true true i j = omega arith
      go true false i j = omega arith
      go false u i j = omega arith

-- behind what is ignored nothing is ignored
mutual
  unfolding ignored

  ignored_again : (l : List ℕ) → ignored (drop (ignored l) l) ≡ 0
  ignored_again [] = refl
  ignored_again (b ∷ []) = go (is_blank b) refl
    where
      go : (t : Bool) → is_blank b ≡ t → ignored (drop (pick t 1 0) (b ∷ [])) ≡ 0
      go true e = refl
      go false e = rw e
  ignored_again (b ∷ (c ∷ l)) = go (ignored_again (c ∷ l)) (in_line_again l) (in_block_again l) (is_blank b) (eqb b slash) (eqb c slash) (eqb c star) refl refl refl refl
    where
      go : ignored (drop (ignored (c ∷ l)) (c ∷ l)) ≡ 0 → ignored (drop (in_line l) l) ≡ 0 → ignored (drop (in_block l) l) ≡ 0
          → (t u v w : Bool) → is_blank b ≡ t → eqb b slash ≡ u → eqb c slash ≡ v → eqb c star ≡ w
          → ignored (drop (pick t (suc (ignored (c ∷ l))) (pick u (pick v (suc (suc (in_line l))) (pick w (suc (suc (in_block l))) 0)) 0)) (b ∷ (c ∷ l))) ≡ 0
      go i j k true u v w e f g h = i
      go i j k false true true w e f g h = j
      go i j k false true false true e f g h = k
      go i j k false true false false e f g h = rw (e, f, g, h)
      go i j k false false v w e f g h = rw (e, f)

  in_line_again : (l : List ℕ) → ignored (drop (in_line l) l) ≡ 0
  in_line_again [] = refl
  in_line_again (b ∷ l) = go (ignored_again l) (in_line_again l) (eqb b newline)
    where
      go : ignored (drop (ignored l) l) ≡ 0 → ignored (drop (in_line l) l) ≡ 0 → (t : Bool) → ignored (drop (pick t (suc (ignored l)) (suc (in_line l))) (b ∷ l)) ≡ 0
      go i j true = i
      go i j false = j

  in_block_again : (l : List ℕ) → ignored (drop (in_block l) l) ≡ 0
  in_block_again [] = refl
  in_block_again (b ∷ []) = refl
  in_block_again (b ∷ (c ∷ l)) = go (ignored_again l) (in_block_again (c ∷ l)) (eqb b star) (eqb c slash)
    where
      go : ignored (drop (ignored l) l) ≡ 0 → ignored (drop (in_block (c ∷ l)) (c ∷ l)) ≡ 0 → (t u : Bool) → ignored (drop (pick t (pick u (suc (suc (ignored l))) (suc (in_block (c ∷ l)))) (suc (in_block (c ∷ l)))) (b ∷ (c ∷ l))) ≡ 0
      go i j true true = i
      go i j true false = j
      go i j false u = j

-- a byte that is neither a blank nor `/`
none : (b : ℕ) (l : List ℕ) → is_blank b ≡ false → eqb b slash ≡ false → ignored (b ∷ l) ≡ 0
unfolding ignored
none b [] e f = rw e
none b (c ∷ l) e f = rw (e, f)

module _ (s : List ℕ) (at : ℕ) where
  -- skipping never goes back
  pub skip_forward : at ≤ skip_from s at
  unfolding skip_from
  skip_forward = omega arith

  -- nor past the end
  pub skip_within : at ≤ length s → skip_from s at ≤ length s
  unfolding skip_from
  skip_within h = omega (arith, ignored_within (drop at s), length-drop at s)

  -- at the end, and beyond it, there is nothing to skip
  pub skip_end : length s ≤ at → skip_from s at ≡ at
  unfolding skip_from ignored
  skip_end h = rw (drop_of_length-le s h) (omega arith)

  -- a second skip finds nothing
  pub skip_again : skip_from s (skip_from s at) ≡ skip_from s at
  unfolding skip_from
  skip_again = rw (← drop-drop (ignored (drop at s)) at s, ignored_again (drop at s)) (omega arith)

  -- a byte that is neither a blank nor `/` is not ignored
  pub skip_here : at < length s → is_blank (get_or s at 0) ≡ false → (get_or s at 0 ≡ slash → ⊥) → skip_from s at ≡ at
  unfolding skip_from
  skip_here h e n = rw (drop-cons s at 0 h, none (get_or s at 0) (drop (suc at) s) e (ne_eqb _ _ n)) (omega arith)
