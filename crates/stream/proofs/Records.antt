-- The whole stream, byte by byte: separators at the front, a rest that starts with none, and what follows a record. Assumes nothing.
use mathlib.Core.Path.{◌≡◌, refl, ap, ◌∙◌}
use mathlib.Core.Bool.{Bool, true, false}
use mathlib.Core.List.{List, [], ◌∷◌, ◌++◌}
use Prim.Native.Nat.{ℕ, zero, suc, ◌+◌, ◌-◌, ◌<◌}
use native.Mathlib.Omega.{arith}
use lib.ListN.{drop}
use lib.Seq.{drop-drop}
use Rattle.refusal.specs.Paper.{pick}
use Rattle.buffer.specs.Buffer.{is_separator, separators}
use Rattle.stream.specs.Whole.{streamed}

-- how a stream goes on behind a record of q bytes at the front of R
abbrev pub behind : {X : Type 0} → X → (List ℕ → ℕ → (ℕ → X) → X) → List ℕ → ℕ → ℕ → X
behind end one R o q = streamed end one (drop (q - 1) (drop 1 R)) 0 (o + 1 + (q - 1))

module _ {X : Type 0} (end : X) (one : List ℕ → ℕ → (ℕ → X) → X) where
  at_offset : (l : List ℕ) (o p : ℕ) → o ≡ p → streamed end one l 0 o ≡ streamed end one l 0 p
  at_offset l o p e = ap (streamed end one l 0) e

  drops : (l : List ℕ) (k o : ℕ) → streamed end one l k o ≡ streamed end one (drop k l) 0 (o + k)
  unfolding streamed
  drops [] zero o = refl
  drops [] (suc k) o = refl
  drops (x ∷ xs) zero o = at_offset (x ∷ xs) o (o + 0) (omega arith)
  drops (x ∷ xs) (suc k) o = drops xs k (o + 1) ∙ at_offset (drop k xs) (o + 1 + k) (o + suc k) (omega arith)

  -- an empty rest
  pub none_left : (o : ℕ) → streamed end one [] 0 o ≡ end
  unfolding streamed
  none_left o = refl

  -- a separator is skipped
  pub separator_first : (x : ℕ) (xs : List ℕ) (o : ℕ) → is_separator x ≡ true → streamed end one (x ∷ xs) 0 o ≡ streamed end one xs 0 (o + 1)
  unfolding streamed
  separator_first x xs o e = rw e refl

  -- a rest that starts with none
  pub record_first : (x : ℕ) (xs : List ℕ) (o : ℕ) → is_separator x ≡ false → streamed end one (x ∷ xs) 0 o ≡ one (x ∷ xs) o (behind end one (x ∷ xs) o)
  unfolding streamed
  record_first x xs o e = rw e (λ i. one (x ∷ xs) o (λ q. drops xs (q - 1) (o + 1) i))

  pub behind_some : (R : List ℕ) (o q : ℕ) → 0 < q → behind end one R o q ≡ streamed end one (drop q R) 0 (o + q)
  behind_some R o q h =
      let a : 1 + (q - 1) ≡ q = omega arith in
      ap (λ (l : List ℕ). streamed end one l 0 (o + 1 + (q - 1))) (drop-drop (q - 1) 1 R ∙ ap (λ (i : ℕ). drop i R) a)
      ∙ at_offset (drop q R) (o + 1 + (q - 1)) (o + q) (omega arith)

  -- separators at the front of bytes that others follow
  pub skips : (B T : List ℕ) (o : ℕ) → streamed end one (B ++ T) 0 o ≡ streamed end one (drop (separators B) B ++ T) 0 (o + separators B)
  unfolding separators
  skips [] T o = at_offset T o (o + 0) (omega arith)
  skips (x ∷ xs) T o = by (is_separator x) refl (skips xs T (o + 1))
    where
      by : (q : Bool) → is_separator x ≡ q → streamed end one (xs ++ T) 0 (o + 1) ≡ streamed end one (drop (separators xs) xs ++ T) 0 (o + 1 + separators xs)
          → streamed end one (x ∷ (xs ++ T)) 0 o
          ≡ streamed end one (drop (pick (is_separator x) (suc (separators xs)) 0) (x ∷ xs) ++ T) 0 (o + pick (is_separator x) (suc (separators xs)) 0)
      by true e h = separator_first x (xs ++ T) o e ∙ h ∙ rw e (at_offset (drop (separators xs) xs ++ T) (o + 1 + separators xs) (o + suc (separators xs)) (omega arith))
      by false e h = rw e (at_offset (x ∷ (xs ++ T)) o (o + 0) (omega arith))

-- where offsets do not matter
pub any_offset : {X : Type 0} (end : X) (one : List ℕ → (ℕ → X) → X) (l : List ℕ) (k o p : ℕ) → streamed end (λ R o on. one R on) l k o ≡ streamed end (λ R o on. one R on) l k p
unfolding streamed
any_offset end one [] k o p = refl
any_offset end one (x ∷ xs) (suc k) o p = any_offset end one xs k (o + 1) (p + 1)
any_offset end one (x ∷ xs) zero o p =
    λ i. pick (is_separator x) (any_offset end one xs 0 (o + 1) (p + 1) i) (one (x ∷ xs) (λ q. any_offset end one xs (q - 1) (o + 1) (p + 1) i))

-- ---- separators

-- bytes at whose front there is none
pub first_none : (x : ℕ) (xs : List ℕ) → separators (x ∷ xs) ≡ 0 → is_separator x ≡ false
unfolding separators
first_none x xs e = by (is_separator x) refl e
  where
    by : (q : Bool) → is_separator x ≡ q → pick (is_separator x) (suc (separators xs)) 0 ≡ 0 → is_separator x ≡ false
    by true q h = let g : suc (separators xs) ≡ 0 = rw q at h in absurd (omega arith)
    by false q h = q

-- none stands behind them
pub none_behind : (l : List ℕ) → separators (drop (separators l) l) ≡ 0
unfolding separators
none_behind [] = refl
none_behind (x ∷ xs) = by (none_behind xs) (is_separator x) refl
  where
    by : separators (drop (separators xs) xs) ≡ 0 → (q : Bool) → is_separator x ≡ q → separators (drop (pick (is_separator x) (suc (separators xs)) 0) (x ∷ xs)) ≡ 0
    by h true e = rw e h
    by h false e = rw e (rw e refl)
