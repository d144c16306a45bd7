-- 28's tests, one by one: the first that fails refuses, and where none does the last decides. Assumes nothing.
use mathlib.Core.Path.{◌≡◌, refl, ap, ◌∙◌}
use mathlib.Core.Bool.{Bool, true, false, ◌&&◌}
use Prim.Native.Nat.{ℕ, ◌+◌, ◌≤◌, ◌<◌}
use borrow.Author.Tests.{le-leb}
use Rattle.places.specs.Places.{least_buffer, most_buffer, most_offset}
use Rattle.places.proofs.Tests.{len_not, buffer_not, in_range, too_short, all_fit}
use Rattle.reader.specs.declared.State.{State}
use Rattle.reader.specs.Fits.{held_of, fits, places_agree, offset_agrees, blocks_agree}

module _ (s : State) (n : ℕ) where
  by_tests : (t o : Bool) → places_agree s n ≡ t → offset_agrees s ≡ o → fits s n ≡ (t && o && blocks_agree s)
  unfolding fits
  by_tests t o e f = ap (λ (x : Bool). x && offset_agrees s && blocks_agree s) e ∙ ap (λ (x : Bool). t && x && blocks_agree s) f

  pub no_places : places_agree s n ≡ false → fits s n ≡ false
  no_places e = by_tests false (offset_agrees s) e refl

  pub no_offset : places_agree s n ≡ true → offset_agrees s ≡ false → fits s n ≡ false
  no_offset e f = by_tests true false e f

  pub blocks_decide : places_agree s n ≡ true → offset_agrees s ≡ true → fits s n ≡ blocks_agree s
  blocks_decide e f = by_tests true true e f

  pub no_len : (s.len ≡ n → ⊥) → fits s n ≡ false
  no_len h = no_places (len_not s.len s.start s.place s.filled n h)

  module _ (a : s.len ≡ n) where
    pub no_low : n < least_buffer → fits s n ≡ false
    no_low h = no_places (buffer_not s.len s.start s.place s.filled n a (too_short n h))

    pub by_blocks : least_buffer ≤ n → n ≤ most_buffer → s.start ≤ s.place → s.place ≤ s.filled → s.filled ≤ n → s.offset + held_of s ≤ most_offset → fits s n ≡ blocks_agree s
    by_blocks b c d e f g = blocks_decide (all_fit s.len s.start s.place s.filled n a (in_range n b c) d e f) (le-leb _ _ g)
