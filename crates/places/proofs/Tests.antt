-- The tests of lengths and places: what decides them, and what they say where they hold. Assumes nothing.
use mathlib.Core.Path.{◌≡◌, refl, ◌∙◌}
use mathlib.Core.Bool.{Bool, true, false, ◌&&◌}
use Prim.Native.Nat.{ℕ, ◌≤◌, ◌<◌}
use lib.Dec.{eqb, leb}
use borrow.Author.Tests.{eq-eqb, ne_eqb, eqb-true, le-leb, lt-leb, leb-true}
use Rattle.places.specs.Places.{least_buffer, most_buffer, is_buffer, in_order, places_fit}

-- two tests that both hold
pub both : (a b : Bool) → a && b ≡ true → (a ≡ true) × (b ≡ true)
both true b e = (refl, e)
both false b e = cc

-- ---- a buffer's length

pub too_short : (n : ℕ) → n < least_buffer → is_buffer n ≡ false
too_short n h = rw (lt-leb least_buffer n h) refl

pub in_range : (n : ℕ) → least_buffer ≤ n → n ≤ most_buffer → is_buffer n ≡ true
in_range n a b = rw (le-leb least_buffer n a, le-leb n most_buffer b) refl

pub range : (n : ℕ) → is_buffer n ≡ true → (least_buffer ≤ n) × (n ≤ most_buffer)
range n e = let x = both (leb least_buffer n) (leb n most_buffer) e in (leb-true _ _ x.0, leb-true _ _ x.1)

-- ---- lengths and places

module _ (len start place filled n : ℕ) where
  abbrev whole : Bool
  whole = places_fit len start place filled n

  pub len_not : (len ≡ n → ⊥) → whole ≡ false
  len_not h = rw (ne_eqb len n h) refl

  module _ (a : len ≡ n) where
    pub buffer_not : is_buffer n ≡ false → whole ≡ false
    buffer_not h = rw (eq-eqb len n a, h) refl

    module _ (b : is_buffer n ≡ true) where
      -- what the places decide
      lengths : whole ≡ in_order start place filled n
      lengths = rw (eq-eqb len n a, b) refl

      pub all_fit : start ≤ place → place ≤ filled → filled ≤ n → whole ≡ true
      all_fit d e f = lengths ∙ rw (le-leb start place d, le-leb place filled e, le-leb filled n f) refl

  -- what the tests say where they hold
  pub record Placed : Type 0 where
    pub len_is : len ≡ n
    pub low : least_buffer ≤ n
    pub high : n ≤ most_buffer
    pub order : start ≤ place
    pub passed : place ≤ filled
    pub within : filled ≤ n

  pub placed : whole ≡ true → Placed
  placed t =
      let x = both (eqb len n && is_buffer n) (in_order start place filled n) t in
      let w = both (eqb len n) (is_buffer n) x.0 in
      let y = both (leb start place && leb place filled) (leb filled n) x.1 in
      let z = both (leb start place) (leb place filled) y.0 in
      record {
        len_is = eqb-true _ _ w.0;
        low = (range n w.1).0;
        high = (range n w.1).1;
        order = leb-true _ _ z.0;
        passed = leb-true _ _ z.1;
        within = leb-true _ _ y.1;
      }
