-- Bytes in the buffer: separators at the front, bytes moved and copied. Assumes nothing.
use mathlib.Core.Path.{◌≡◌, refl, sym, ap, ◌∙◌}
use mathlib.Core.Bool.{Bool, true, false, cond}
use Rattle.std.specs.List.{prefix_len}
use mathlib.Core.List.{List, [], ◌∷◌, ◌++◌, append_assoc}
use Prim.Native.Nat.{ℕ, suc, ◌+◌, ◌-◌, ◌≤◌, ◌<◌, min}
use native.Mathlib.Omega.{arith}
use borrow.Author.Tests.{le-leb}
use lib.ListN.{length, length-drop, get_or, drop, take}
use lib.Seq.{slice, drop-drop, paste, get_or-drop, get_or-take, take-paste, drop-paste}
use borrow.Rule.Slice.PartMut.{put_mid}
use Rattle.std.specs.List.{copy_within}
use Rattle.std.proofs.lemmas.Slice.{between_is}
use Rattle.refusal.specs.Paper.{pick}
use Rattle.buffer.specs.Buffer.{is_separator, separators, taken_behind, refilled}

-- the separators at the front are the bytes that pass the test
pub separators_are : (l : List ℕ) → separators l ≡ prefix_len is_separator l
unfolding separators
separators_are [] = refl
separators_are (x ∷ xs) = by (is_separator x) (separators_are xs)
  where
    by : (q : Bool) → separators xs ≡ prefix_len is_separator xs → pick q (suc (separators xs)) 0 ≡ cond q (1 + prefix_len is_separator xs) 0
    by true h = omega arith
    by false h = refl

pub seps_le : (l : List ℕ) → separators l ≤ length l
unfolding separators
seps_le [] = omega arith
seps_le (x ∷ xs) = by (is_separator x) (seps_le xs)
  where
    by : (q : Bool) → separators xs ≤ length xs → pick q (suc (separators xs)) 0 ≤ suc (length xs)
    by true h = omega arith
    by false h = omega arith

pub slice_at : (l : List ℕ) (f t i : ℕ) → f + i < t → get_or (slice f t l) i 0 ≡ get_or l (f + i) 0
slice_at l f t i h = get_or-drop f (take t l) i 0 ∙ get_or-take t l (f + i) 0 h

-- the buffer m holds the bytes of l from start up to filled at its front, and behind as many bytes what l does
abbrev pub Front : ℕ → ℕ → List ℕ → List ℕ → Type 0
Front start filled l m = (take (filled - start) m ≡ slice start filled l) × (drop (filled - start) m ≡ drop (filled - start) l)

pub front_moved : (start filled : ℕ) (l m : List ℕ) → start ≤ filled → filled ≤ length l → m ≡ copy_within l start filled 0 → Front start filled l m
front_moved start filled l m a b e =
    let h = filled - start in
    let P = paste l 0 (drop start l) h in
    let z : 0 + h ≡ h = omega arith in
    let long : h ≤ length (drop start l) = omega (arith, length-drop start l) in
    rw e (
      ap (λ (k : ℕ). take k P) (sym z) ∙ take-paste l 0 (drop start l) h (omega arith) long ∙ between_is l start filled,
      ap (λ (k : ℕ). drop k P) (sym z) ∙ drop-paste l 0 (drop start l) h (omega arith) long ∙ ap (λ (k : ℕ). drop k l) z,
    )

pub front_there : (start filled : ℕ) (l m : List ℕ) → start ≡ 0 → m ≡ l → Front start filled l m
front_there start filled l m z e = let n : filled - 0 ≡ filled = omega arith in rw (z, e, n) (refl, refl)

-- the piece's first bytes copied behind them
pub front_piece : (start filled count : ℕ) (l m piece : List ℕ) → Front start filled l m → put_mid (filled - start) (filled - start + count - (filled - start)) m (take count piece) ≡ (slice start filled l ++ take count piece) ++ drop (filled - start + count) l
front_piece start filled count l m piece f =
    let h = filled - start in
    let k : h + count - h ≡ count = omega arith in
    rw (k, f.0, f.1, drop-drop) (sym (append_assoc (slice start filled l) (take count piece) _))

-- where the places lie in order
module _ (start filled : ℕ) where
  pub taken_is : (n : ℕ) → start ≤ filled → filled ≤ n → (m : ℕ) → taken_behind start filled n m ≡ min m (n - (filled - start))
  unfolding taken_behind
  taken_is n a b m = simp (le-leb _ _ a, le-leb _ _ b)

  pub refilled_is : (piece l : List ℕ) → start ≤ filled → filled ≤ length l
      → refilled start filled piece l ≡ (slice start filled l ++ take (min (length piece) (length l - (filled - start))) piece) ++ drop (filled - start + min (length piece) (length l - (filled - start))) l
  unfolding refilled
  refilled_is piece l a b = simp (le-leb _ _ a, le-leb _ _ b, taken_is (length l) a b (length piece)) refl

-- a part of the bytes, as a slice is lent
pub part_is : (from to : ℕ) (l : List ℕ) → take (to - from) (drop from l) ≡ slice from to l
part_is from to l = between_is l from to
