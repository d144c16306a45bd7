-- `find_byte` meets its contract: a block that holds none is passed, and in another stands the place found.
use Rattle.marks.specs.Classes.{is_byte}
use Rattle.search.specs.First.{first_from}
use lib.ListN.{length}
use Prim.Native.Nat.{◌+◌, ◌-◌, ◌≤◌}
use mathlib.Core.Path.{◌≡◌}
use Rattle.search.proofs.find_byte.Given as goal

abbrev pub invariant-loop-place : goal.invariant-loop-place
invariant-loop-place l = (l.last + 32 ≤ length l.s) × (first_from (is_byte l.b) l.s l.place ≡ first_from (is_byte l.b) l.s l.at)

abbrev pub decreases-loop-place : goal.decreases-loop-place
decreases-loop-place l = length l.s - l.place
