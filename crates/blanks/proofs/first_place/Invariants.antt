-- `first_place` meets its contract: from each blank that it passes, the place that is not ignored is the same.
use mathlib.Core.Path.{◌≡◌}
use Prim.Native.Nat.{◌-◌}
use lib.ListN.{length}
use Rattle.blanks.specs.Skip.{skip_from}
use Rattle.blanks.proofs.first_place.Given as goal

abbrev pub invariant-loop-p : goal.invariant-loop-p
invariant-loop-p l = skip_from l.input l.p ≡ skip_from l.input l.at

abbrev pub decreases-loop-p : goal.decreases-loop-p
decreases-loop-p l = length l.input - l.p
