-- A block is opened, or it is one too many. Assumes nothing.
use mathlib.Core.Path.{◌≡◌}
use Prim.Native.Nat.{◌<◌}
use mathlib.Core.List.{List, ◌∷◌}
use native.Mathlib.Omega.{arith}
use lib.ListN.{length}
use borrow.Author.Tests.{le-ltb, lt-ltb}
use Rattle.automaton.specs.Limit.{most_open}
use Rattle.automaton.specs.Step.{Block, Due, go, deep, opened}

-- there is room for a block, or none
pub too_deep_lem : (b : Block) (d : Due) (K : List Block) → length K ≡ most_open → opened b d K ≡ deep
unfolding opened
too_deep_lem b d K e = rw (le-ltb (length K) most_open (omega arith))

pub not_deep : (b : Block) (d : Due) (K : List Block) → length K < most_open → opened b d K ≡ go (b ∷ K) d
unfolding opened
not_deep b d K h = rw (lt-ltb (length K) most_open h)
