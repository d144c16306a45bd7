-- Of two numbers one is at most the other, or above it. Assumes nothing.
use mathlib.Core.Path.{◌≡◌, refl}
use mathlib.Core.Logic.{◌⊎◌, inl, inr}
use mathlib.Core.Bool.{Bool, true, false}
use Prim.Native.Nat.{ℕ, ◌≤◌, ◌<◌}
use lib.Dec.{leb}
use borrow.Author.Tests.{leb-true, leb-false}

test : (a b : ℕ) (q : Bool) → leb a b ≡ q → (a ≤ b) ⊎ (b < a)
test a b true e = inl (leb-true a b e)
test a b false e = inr (leb-false a b e)

pub either : (a b : ℕ) → (a ≤ b) ⊎ (b < a)
either a b = test a b (leb a b) refl
