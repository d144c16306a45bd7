-- `by_bytes` meets its contract: from each place that it passes, the place found is the same.
use Prim.Native.Nat.{◌+◌, ◌-◌, ◌≤◌}
use lib.ListN.{length}
use Rattle.search.specs.First.{first_from}
use mathlib.Core.Path.{◌≡◌}
use Rattle.search.proofs.by_bytes.Given as goal

abbrev pub invariant-loop-p : goal.invariant-loop-p
invariant-loop-p g l = (l.p ≤ l.at + (length l.s - l.at)) × (first_from (g.C.Class.is l.class) l.s l.p ≡ first_from (g.C.Class.is l.class) l.s l.at)
