-- What the bytes before the first quote or backslash leave as it was: the closing quote, the end of the pieces, and their bytes but
-- for themselves.
use mathlib.Core.Path.{◌≡◌, refl, sym, ap, ◌∙◌}
use mathlib.Core.Bool.{Bool, true, false, cond, ◌||◌}
use mathlib.Core.List.{List, [], ◌∷◌, ◌++◌}
use Prim.Native.Nat.{ℕ, zero, suc, ◌+◌, ◌≤◌, ◌<◌}
use native.Mathlib.Nat.{le_of_suc-le-suc, not-suc-le-zero, add-zero}
use native.Mathlib.Omega.{arith}
use borrow.Author.Tests.{eqb-true, eqb-false, eq-eqb}
use lib.Dec.{eqb}
use lib.ListN.{length, get_or, drop, take}
use Rattle.refusal.specs.Paper.{pick}
use Rattle.marks.specs.Classes.{is_quote}
use Rattle.search.specs.First.{first, first_from}
use Rattle.pieces.specs.Pieces.{Walk, giving, walk}
use Rattle.quoted.specs.Quoted.{closing, stands}
use Rattle.quoted.specs.Inside.{plain}
use Rattle.pieces.proofs.Walks.{walk_plain_cons}

-- bytes, and what the later pieces come to
abbrev pub ahead : List ℕ → Walk → Walk
ahead bs w = record { bytes = bs ++ w.bytes; end = w.end }

pub plain_within : (l : List ℕ) → plain l ≤ length l
unfolding plain
plain_within [] = omega arith
plain_within (b ∷ l) = go (plain_within l) (eqb b 34) (eqb b 92) refl refl
  where
    go : plain l ≤ length l → (t u : Bool) → eqb b 34 ≡ t → eqb b 92 ≡ u → plain (b ∷ l) ≤ suc (length l)
    go i true u e f = rw e (omega arith)
    go i false true e f = rw (e, f) (omega arith)
    go i false false e f = rw (e, f) (omega arith)

-- the first quote or backslash stands behind them
first_plain : (p : ℕ) (l : List ℕ) → first is_quote p l ≡ p + plain l
unfolding first is_quote plain
first_plain p [] = sym (add-zero p)
first_plain p (b ∷ l) = go (first_plain (p + 1) l) (eqb b 34) (eqb b 92)
  where
    go : first is_quote (p + 1) l ≡ p + 1 + plain l → (t u : Bool)
        → cond (t || u) p (first is_quote (p + 1) l) ≡ p + pick t 0 (pick u 0 (suc (plain l)))
    go i true u = sym (add-zero p)
    go i false true = sym (add-zero p)
    go i false false = omega arith

pub plain_first : (s : List ℕ) (p : ℕ) → first_from is_quote s p ≡ p + plain (drop p s)
unfolding first_from
plain_first s p = first_plain p (drop p s)

pub plain_closing : (p : ℕ) (l : List ℕ) → closing p l ≡ closing (p + plain l) (drop (plain l) l)
unfolding plain closing
plain_closing p [] = refl
plain_closing p (b ∷ l) = go (plain_closing (p + 1) l) (eqb b 34) (eqb b 92) refl refl
  where
    go : closing (p + 1) l ≡ closing (p + 1 + plain l) (drop (plain l) l) → (t u : Bool) → eqb b 34 ≡ t → eqb b 92 ≡ u
        → closing p (b ∷ l) ≡ closing (p + plain (b ∷ l)) (drop (plain (b ∷ l)) (b ∷ l))
    go i true u e f = rw (e, add-zero p) (rw e)
    go i false true e f = rw (e, f, add-zero p) (rw (e, f))
    go i false false e f = rw (e, f) (i ∙ ap (λ (q : ℕ). closing q (drop (plain l) l)) same)
      where
        same : p + 1 + plain l ≡ p + suc (plain l)
        same = omega arith

pub plain_walk : (l : List ℕ) → walk 0 l ≡ ahead (take (plain l) l) (walk 0 (drop (plain l) l))
unfolding plain
plain_walk [] = refl
plain_walk (b ∷ l) = go (plain_walk l) (eqb b 34) (eqb b 92) refl refl
  where
    go : walk 0 l ≡ ahead (take (plain l) l) (walk 0 (drop (plain l) l)) → (t u : Bool) → eqb b 34 ≡ t → eqb b 92 ≡ u
        → walk 0 (b ∷ l) ≡ ahead (take (plain (b ∷ l)) (b ∷ l)) (walk 0 (drop (plain (b ∷ l)) (b ∷ l)))
    go i true u e f = rw e
    go i false true e f = rw (e, f)
    go i false false e f = rw (e, f) (walk_plain_cons b l (eqb-false _ _ e) (eqb-false _ _ f) ∙ ap (giving b) i)

pub plain_none : (l : List ℕ) → stands 92 (take (plain l) l) ≡ false
unfolding plain stands
plain_none [] = refl
plain_none (b ∷ l) = go (plain_none l) (eqb b 34) (eqb b 92) refl refl
  where
    go : stands 92 (take (plain l) l) ≡ false → (t u : Bool) → eqb b 34 ≡ t → eqb b 92 ≡ u → stands 92 (take (plain (b ∷ l)) (b ∷ l)) ≡ false
    go i true u e f = rw e
    go i false true e f = rw (e, f)
    go i false false e f = rw (e, f) (rw f i)

pub plain_stops : (l : List ℕ) → plain l < length l → (get_or l (plain l) 0 ≡ 34 → ⊥) → get_or l (plain l) 0 ≡ 92
unfolding plain
plain_stops [] h n = absurd (not-suc-le-zero h)
plain_stops (b ∷ l) h n = go (plain_stops l) (eqb b 34) (eqb b 92) refl refl h n
  where
    go : (plain l < length l → (get_or l (plain l) 0 ≡ 34 → ⊥) → get_or l (plain l) 0 ≡ 92) → (t u : Bool) → eqb b 34 ≡ t → eqb b 92 ≡ u
        → plain (b ∷ l) < suc (length l) → (get_or (b ∷ l) (plain (b ∷ l)) 0 ≡ 34 → ⊥) → get_or (b ∷ l) (plain (b ∷ l)) 0 ≡ 92
    go i true u e f h n = absurd ((rw e at n) (eqb-true _ _ e))
    go i false true e f h n = rw (e, f) (eqb-true _ _ f)
    go i false false e f h n = rw (e, f) (i (le_of_suc-le-suc (rw (e, f) at h)) (rw (e, f) at n))

-- a byte that stands at a place stands in what is taken beyond it
pub stands_at : (b : ℕ) (l : List ℕ) (k n : ℕ) → k < n → k < length l → get_or l k 0 ≡ b → stands b (take n l) ≡ true
unfolding stands
stands_at b [] k n h i e = absurd (not-suc-le-zero i)
stands_at b (c ∷ l) k zero h i e = absurd (not-suc-le-zero h)
stands_at b (c ∷ l) zero (suc n) h i e = rw (eq-eqb _ _ e)
stands_at b (c ∷ l) (suc k) (suc n) h i e = go (stands_at b l k n (le_of_suc-le-suc h) (le_of_suc-le-suc i) e) (eqb c b) refl
  where
    go : stands b (take n l) ≡ true → (t : Bool) → eqb c b ≡ t → stands b (c ∷ take n l) ≡ true
    go i true f = rw f
    go i false f = rw f i
