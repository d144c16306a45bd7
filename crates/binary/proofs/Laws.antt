-- Laws of `binary_from`: which answer follows from what was read, and what a caller may rely on. Assumes nothing.
use mathlib.Core.Path.{◌≡◌, sym, ap, ◌∙◌}
use mathlib.Core.List.{List, [], ◌∷◌}
use Prim.Native.Nat.{ℕ, ◌+◌, ◌-◌, ◌/◌, ◌%◌, ◌≤◌, ◌<◌}
use native.Mathlib.Omega.{arith}
use lib.ListN.{length, get_or}
use borrow.Author.Tests.{lt-ltb, le-ltb, ne_eqb}
use Rattle.refusal.specs.Numbers.{negative_length, beyond_slice}
use Rattle.refusal.specs.Paper.{Paper, gives, more, refused, Got, got, spot}
use Rattle.varint.specs.Varint.{uvarint_at}
use Rattle.zigzag.specs.Zigzag.{signed}
use Rattle.varint.specs.Signed.{signed_answer, varint_at}
use Rattle.zigzag.proofs.Laws.{even, odd}
use Rattle.token.specs.declared.Token.TheVariants.{String}
use Rattle.token.specs.Marks.{mark_of, of_mark}
use Rattle.binary.specs.Binary.{behind, of_size, of_length, double_at, marked, binary_from, binary_at}

-- a number behind a marker is that of the varint there
pub behind_gives : {A : Type 0} (at : ℕ) (p : Paper (Got A)) (g : Got A) → gives g ≡ behind at p → p ≡ gives g
behind_gives at (gives h) g e = sym e
behind_gives at more g e = absurd cc
behind_gives at (refused n vs) g e = absurd cc

-- ---- from the code's tests to the definition

module _ (s : List ℕ) (at : ℕ) where
  pub beyond : length s < at → binary_at s at ≡ refused beyond_slice []
  unfolding binary_at
  beyond h = rw (lt-ltb _ _ h)

  pub from_is : at ≤ length s → binary_at s at ≡ binary_from s at
  unfolding binary_at
  from_is h = rw (le-ltb (length s) at h)

  pub ended : length s ≤ at → binary_from s at ≡ more
  unfolding binary_from
  ended h = rw (le-ltb at (length s) h)

  pub inside : at < length s → binary_from s at ≡ marked s at (get_or s at 0)
  unfolding binary_from
  inside h = rw (lt-ltb at (length s) h)

  pub at_marked : at < length s → binary_at s at ≡ marked s at (get_or s at 0)
  at_marked h = from_is (omega arith) ∙ inside h

  pub unmarked : (b : ℕ) → (b ≡ 1 → ⊥) → (b ≡ 2 → ⊥) → (b ≡ 3 → ⊥) → (b ≡ 4 → ⊥) → (b ≡ 5 → ⊥) → (b ≡ 6 → ⊥) → marked s at b ≡ of_mark at (mark_of b)
  unfolding marked
  unmarked b h₁ h₂ h₃ h₄ h₅ h₆ = rw (ne_eqb b 1 h₁, ne_eqb b 2 h₂, ne_eqb b 3 h₃, ne_eqb b 4 h₄, ne_eqb b 5 h₅, ne_eqb b 6 h₆)

  -- ---- strings, by the unsigned varint of the length

  module _ (v n : ℕ) where
    pub size_odd : v % 2 ≡ 1 → of_size s at n (signed v) ≡ refused negative_length (at ∷ [])
    size_odd h = rw (odd v h)

    pub size_short : v % 2 ≡ 0 → length s - n < v / 2 → of_size s at n (signed v) ≡ more
    size_short h k = rw (even v h, lt-ltb (length s - n) (v / 2) k)

    pub size_whole : v % 2 ≡ 0 → v / 2 ≤ length s - n → of_size s at n (signed v) ≡ gives (spot (String n (v / 2)) at (n + v / 2))
    size_whole h k = rw (even v h, le-ltb (length s - n) (v / 2) k)

    pub string_sized : uvarint_at s (at + 1) ≡ gives (got v n) → of_length s at (varint_at s (at + 1)) ≡ of_size s at n (signed v)
    unfolding varint_at
    string_sized e = ap (λ (p : Paper (Got ℕ)). of_length s at (signed_answer p)) e

  -- ---- doubles

  pub double_short : length s - at < 9 → double_at s at ≡ more
  unfolding double_at
  double_short h = rw (lt-ltb (length s - at) 9 h)
