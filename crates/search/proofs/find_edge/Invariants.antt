-- `find_edge` meets its contract: letters are passed, and the first other byte is an edge or passed too.
use Rattle.search.specs.First.{first_from, is_edge}
use lib.ListN.{length}
use Prim.Native.Nat.{◌+◌, ◌-◌, ◌≤◌}
use mathlib.Core.Path.{◌≡◌}
use Rattle.search.proofs.find_edge.Given as goal

abbrev pub invariant-loop-p : goal.invariant-loop-p
invariant-loop-p l = (l.last + 8 ≤ length l.s) × (first_from is_edge l.s l.p ≡ first_from is_edge l.s l.at)

abbrev pub decreases-loop-p : goal.decreases-loop-p
decreases-loop-p l = length l.s - l.p
