-- `by_words` meets its contract: a word without a mark is passed, and the lowest mark is the place found.
use Rattle.search.specs.First.{first_from}
use lib.ListN.{length}
use Prim.Native.Nat.{◌+◌, ◌-◌, ◌≤◌}
use mathlib.Core.Path.{◌≡◌}
use Rattle.search.proofs.by_words.Given as goal

abbrev pub invariant-loop-p : goal.invariant-loop-p
invariant-loop-p g l = (l.last + 8 ≤ length l.s) × (first_from (g.C.Class.is l.class) l.s l.p ≡ first_from (g.C.Class.is l.class) l.s l.at)

abbrev pub decreases-loop-p : goal.decreases-loop-p
decreases-loop-p g l = length l.s - l.p
