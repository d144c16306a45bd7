-- What every reader of tokens shows of its answers: a token starts at its place and ends behind it within the bytes, and a refusal
-- of a token carries that place. Assumes nothing.
use mathlib.Core.Path.{◌≡◌, refl}
use mathlib.Core.Bool.{Bool, true, false}
use mathlib.Core.List.{[], ◌∷◌}
use Prim.Native.Nat.{ℕ, ◌+◌, ◌≤◌, ◌<◌}
use native.Mathlib.Omega.{arith}
use lib.Dec.{lit≤}
use Rattle.refusal.specs.Numbers.{bad_byte, unknown_word}
use Rattle.refusal.specs.Paper.{Paper, gives, more, refused, Spot, spot, pick}
use Rattle.token.specs.declared.Token.{Token}
use Rattle.std.specs.Prelude.{Option, Some, None}
use Rattle.token.specs.Marks.{of_mark}

-- of an answer about the token at a place, among so many bytes
abbrev pub Sound : ℕ → ℕ → Paper (Spot Token) → Type 0
Sound length at (gives (spot t first next)) = (first ≡ at) × (at < next) × (next ≤ length)
Sound length at more = Unit {0}
Sound length at (refused n vs) = (bad_byte ≤ n) × (n ≤ unknown_word) × (vs ≡ at ∷ [])

module _ (length at : ℕ) where
  pub pick_sound : (q : Bool) (a b : Paper (Spot Token)) → Sound length at a → Sound length at b → Sound length at (pick q a b)
  pick_sound true a b x y = x
  pick_sound false a b x y = y

  pub one_sound : at < length → (t : Token) → Sound length at (gives (spot t at (at + 1)))
  one_sound h t = (refl, omega arith, omega arith)

  pub mark_sound : at < length → (m : Option Token) → Sound length at (of_mark at m)
  mark_sound h (Some t) = one_sound h t
  mark_sound h None = (lit≤ tt, lit≤ tt, refl)
