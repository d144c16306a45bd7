-- The search by place, and the marks of a block.
use mathlib.Core.Path.{◌≡◌, refl, sym, ap, ◌∙◌}
use mathlib.Core.Bool.{Bool, true, false, cond, not, ◌&&◌, ◌||◌}
use mathlib.Core.List.{List, [], ◌∷◌}
use Prim.Native.Nat.{ℕ, zero, suc, ◌+◌, ◌-◌, ◌≤◌, ◌<◌}
use native.Mathlib.Numerals.{add-one}
use native.Mathlib.Omega.{arith}
use lib.Bits.{bit_or, or_add_and, and_le_l, and_le_r}
use mir.Val.{bool_byte}
use borrow.Author.Tests.{eq-eqb, ne_eqb, ltb-true, ltb-false}
use lib.Dec.{eqb, leb, ltb}
use native.Mathlib.Nat.{le_refl}
use lib.ListN.{length, get_or, drop, drop_of_length-le, length-drop}
use lib.Seq.{drop-cons}
use Rattle.marks.specs.Classes.{is_byte, is_quote, no_letter}
use Rattle.search.specs.First.{first, first_from, Before, is_joint, is_edge}

-- the bytes from a place on: the one there, and those behind it
pub drop_more : (s : List ℕ) (p : ℕ) → p < length s → drop p s ≡ get_or s p 0 ∷ drop (p + 1) s
drop_more s p h = rw (add-one, drop-cons s p 0)

module _ (f : ℕ → Bool) (s : List ℕ) (p : ℕ) where
  pub first_out : length s ≤ p → p ≡ first_from f s p
  unfolding first first_from
  first_out h = rw (drop_of_length-le s h) refl

  pub first_here : p < length s → f (get_or s p 0) ≡ true → p ≡ first_from f s p
  unfolding first first_from
  first_here h e = rw (drop_more s p h, e)

  pub first_more : p < length s → f (get_or s p 0) ≡ false → first_from f s (p + 1) ≡ first_from f s p
  unfolding first first_from
  first_more h e = rw (drop_more s p h, e)

-- nothing is set in two numbers together only where nothing is set in either
pub or_none : (a b : ℕ) → bit_or a b ≡ 0 → (a ≡ 0) × (b ≡ 0)
or_none a b e = (omega (arith, or_add_and a b, and_le_l a b, and_le_r a b), omega (arith, or_add_and a b, and_le_l a b, and_le_r a b))

-- a flag put into marks
pub mark_none : (h : ℕ) (t : Bool) → bit_or h (bool_byte t) ≡ 0 → (h ≡ 0) × (t ≡ false)
mark_none h true e = let q : ◌≡◌ {A = ℕ} 1 0 = (or_none h 1 e).1 in absurd (omega arith)
mark_none h false e = ((or_none h 0 e).0, refl)

-- a byte more of a block
pub again :
    (f : ℕ → Bool) (h : ℕ) (t : Bool) (s : List ℕ) (p i : ℕ) → p + i < length s → t ≡ f (get_or s (p + i) 0)
    → (h ≡ 0 → first_from f s (p + i) ≡ first_from f s p) → bit_or h (bool_byte t) ≡ 0 → first_from f s (p + (i + 1)) ≡ first_from f s p
again f h t s p i l r q e =
    ap (first_from f s) place ∙ first_more f s (p + i) l (sym r ∙ (mark_none h t e).1) ∙ q (mark_none h t e).0
  where
    place : p + (i + 1) ≡ p + i + 1
    place = omega arith

-- the same with quotes and backslashes marked each by itself
pub again_both :
    (h k : ℕ) (s : List ℕ) (p i : ℕ) → p + i < length s → (h ≡ 0 → k ≡ 0 → first_from is_quote s (p + i) ≡ first_from is_quote s p)
    → bit_or h (bool_byte (eqb (get_or s (p + i) 0) 34)) ≡ 0 → bit_or k (bool_byte (eqb (get_or s (p + i) 0) 92)) ≡ 0
    → first_from is_quote s (p + (i + 1)) ≡ first_from is_quote s p
unfolding is_quote
again_both h k s p i l q e g =
    again is_quote 0 false s p i l (sym (none (eqb (get_or s (p + i) 0) 34) (eqb (get_or s (p + i) 0) 92) (mark_none h (eqb (get_or s (p + i) 0) 34) e).1 (mark_none k (eqb (get_or s (p + i) 0) 92) g).1)) (λ z. q (mark_none h (eqb (get_or s (p + i) 0) 34) e).0 (mark_none k (eqb (get_or s (p + i) 0) 92) g).0) refl
  where
    none : (t u : Bool) → t ≡ false → u ≡ false → (t || u) ≡ false
    none true u d f = d
    none false u d f = f

-- the place found is not before the place of the start
first_ge : (f : ℕ → Bool) (p : ℕ) (l : List ℕ) → p ≤ first f p l
unfolding first
first_ge f p [] = le_refl p
first_ge f p (b ∷ l) = go (f b) (first_ge f (p + 1) l)
  where
    go : (t : Bool) → p + 1 ≤ first f (p + 1) l → p ≤ cond t p (first f (p + 1) l)
    go true h = le_refl p
    go false h = omega arith

-- nor beyond the end
first_le : (f : ℕ → Bool) (p : ℕ) (l : List ℕ) → first f p l ≤ p + length l
unfolding first
first_le f p [] = omega arith
first_le f p (b ∷ l) = go (f b) (first_le f (p + 1) l)
  where
    go : (t : Bool) → first f (p + 1) l ≤ p + 1 + length l → cond t p (first f (p + 1) l) ≤ p + suc (length l)
    go true h = omega arith
    go false h = omega arith

pub from_le : (f : ℕ → Bool) (s : List ℕ) (p : ℕ) → first_from f s p ≤ p + (length s - p)
unfolding first_from
from_le f s p = omega (arith, first_le f p (drop p s), length-drop p s)

pub from_ge : (f : ℕ → Bool) (s : List ℕ) (p : ℕ) → p ≤ first_from f s p
unfolding first_from
from_ge f s p = first_ge f p (drop p s)

pub found_on : (f : ℕ → Bool) (s : List ℕ) (p q : ℕ) → q ≡ first_from f s p → p ≤ q
found_on f s p q e = omega (arith, from_ge f s p)

-- what no byte passed over changes is the same at the place found
module _ {A : Type 0} (f : ℕ → Bool) (s : List ℕ) (G : ℕ → A) (step : (p : ℕ) → p < length s → f (get_or s p 0) ≡ false → G p ≡ G (p + 1)) where
  same_within : (n p : ℕ) → length s ≤ p + n → G p ≡ G (first_from f s p)
  same_within zero p h = ap G (first_out f s p (omega arith))
  same_within (suc n) p h = go (same_within n (p + 1) (omega arith)) (ltb p (length s)) refl
    where
      by : G (p + 1) ≡ G (first_from f s (p + 1)) → p < length s → (t : Bool) → f (get_or s p 0) ≡ t → G p ≡ G (first_from f s p)
      by i k true e = ap G (first_here f s p k e)
      by i k false e = step p k e ∙ i ∙ ap G (first_more f s p k e)

      go : G (p + 1) ≡ G (first_from f s (p + 1)) → (t : Bool) → ltb p (length s) ≡ t → G p ≡ G (first_from f s p)
      go i true e = by i (ltb-true _ _ e) (f (get_or s p 0)) refl
      go i false e = ap G (first_out f s p (ltb-false _ _ e))

  pub same_at_first : (p : ℕ) → G p ≡ G (first_from f s p)
  same_at_first p = same_within (length s) p (omega arith)

-- what stands at the place found
module _ (f : ℕ → Bool) (s : List ℕ) (p : ℕ) where
  found_again : first_from f s p ≡ first_from f s (first_from f s p)
  found_again = same_at_first f s (first_from f s) (λ q h e. sym (first_more f s q h e)) p

  pub first_found : first_from f s p < length s → f (get_or s (first_from f s p) 0) ≡ true
  first_found h = go (f (get_or s (first_from f s p) 0)) refl
    where
      go : (t : Bool) → f (get_or s (first_from f s p) 0) ≡ t → t ≡ true
      go true e = refl
      go false e = absurd (omega (arith, from_ge f s (first_from f s p + 1), first_more f s (first_from f s p) h e, found_again))

-- one byte, by the code's test
module _ (c : ℕ) (s : List ℕ) (p : ℕ) (h : p < length s) where
  pub byte_here_lem : get_or s p 0 ≡ c → p ≡ first_from (is_byte c) s p
  unfolding is_byte
  byte_here_lem e = first_here (is_byte c) s p h (eq-eqb _ _ e)

  pub byte_more : (get_or s p 0 ≡ c → ⊥) → first_from (is_byte c) s (p + 1) ≡ first_from (is_byte c) s p
  unfolding is_byte
  byte_more n = first_more (is_byte c) s p h (ne_eqb _ _ n)

-- ---- edges: no letter is one, and another byte is one unless it is a joint
letter_no_edge : (b : ℕ) → no_letter b ≡ false → is_edge b ≡ false
unfolding no_letter is_edge
letter_no_edge b = go ((leb 65 b && leb b 90) || (leb 97 b && leb b 122))
  where
    go : (t : Bool) → not t ≡ false → not (t || is_joint b) ≡ false
    go true e = refl
    go false e = absurd (let z : ◌≡◌ {A = ℕ} 0 1 = cc in omega arith)

other_edge : (b : ℕ) → no_letter b ≡ true → is_edge b ≡ not (is_joint b)
unfolding no_letter is_edge
other_edge b = go ((leb 65 b && leb b 90) || (leb 97 b && leb b 122))
  where
    go : (t : Bool) → not t ≡ true → not (t || is_joint b) ≡ not (is_joint b)
    go true e = absurd (let z : ◌≡◌ {A = ℕ} 0 1 = cc in omega arith)
    go false e = refl

edge_jump : (s : List ℕ) (p : ℕ) → first_from is_edge s p ≡ first_from is_edge s (first_from no_letter s p)
edge_jump s = same_at_first no_letter s (first_from is_edge s) (λ p h e. sym (first_more is_edge s p h (letter_no_edge _ e)))

pub edge_letters : (s : List ℕ) (p q : ℕ) → first_from no_letter s q ≡ first_from no_letter s p → first_from is_edge s q ≡ first_from is_edge s p
edge_letters s p q e = edge_jump s q ∙ ap (first_from is_edge s) e ∙ sym (edge_jump s p)

module _ (s : List ℕ) (p q : ℕ) (e : q ≡ first_from no_letter s p) (h : q < length s) where
  other : no_letter (get_or s q 0) ≡ true
  other = ap (λ (x : ℕ). no_letter (get_or s x 0)) e ∙ first_found no_letter s p (omega arith)

  jumped : first_from is_edge s q ≡ first_from is_edge s p
  jumped = ap (first_from is_edge s) e ∙ sym (edge_jump s p)

  pub edge_here : is_joint (get_or s q 0) ≡ false → q ≡ first_from is_edge s p
  edge_here j = first_here is_edge s q h (other_edge _ other ∙ ap not j) ∙ jumped

  pub edge_more : is_joint (get_or s q 0) ≡ true → first_from is_edge s (q + 1) ≡ first_from is_edge s p
  edge_more j = first_more is_edge s q h (other_edge _ other ∙ ap not j) ∙ jumped

-- ---- what stands before the first, of eight bytes and of those behind them
module _ (f : ℕ → Bool) (s : List ℕ) (p q n a rest r : ℕ) (next : q ≡ p + 8) (x : Before f s p 8 a) (y : Before f s q n rest) (near : a < 8 → r ≡ a) (far : a ≡ 8 → r ≡ 8 + rest) where
  in_8 : (t : Bool) → ltb a 8 ≡ t → Before f s p (8 + n) r
  in_8 true e =
      let l : a < 8 = ltb-true a 8 e in
      let i : r ≡ a = near l in
      (λ h. ap (λ (k : ℕ). p + k) i ∙ x.0 l, λ h. absurd (omega arith), omega arith)
  in_8 false e =
      let l : a ≡ 8 = omega (arith, ltb-false a 8 e, x.2) in
      let i : r ≡ 8 + rest = far l in
      let none : first_from f s q ≡ first_from f s p = ap (first_from f s) next ∙ x.1 l in
      let here : p + r ≡ q + rest = omega arith in
      let end : p + (8 + n) ≡ q + n = omega arith in
      (λ h. here ∙ y.0 (omega arith) ∙ none, λ h. ap (first_from f s) end ∙ y.1 (omega arith) ∙ none, omega (arith, y.2))

  pub before_join : Before f s p (8 + n) r
  before_join = in_8 (ltb a 8) refl
