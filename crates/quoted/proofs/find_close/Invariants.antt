-- `find_close` meets its contract: from each place that it passes, the closing quote is the same.
use mathlib.Core.Path.{◌≡◌}
use Prim.Native.Nat.{◌-◌}
use lib.ListN.{length, drop}
use Rattle.quoted.specs.Quoted.{closing}
use Rattle.quoted.proofs.find_close.Given as goal

abbrev pub invariant-loop-b : goal.invariant-loop-b
invariant-loop-b l = closing l.p (drop l.p l.input) ≡ closing l.from (drop l.from l.input)

abbrev pub decreases-loop-b : goal.decreases-loop-b
decreases-loop-b l = length l.input - l.p
