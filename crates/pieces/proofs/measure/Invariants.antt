-- `measure` meets its contract: n bytes and what the pieces from each place on give come to what those from the start give.
use mathlib.Core.Path.{◌≡◌}
use Prim.Native.Nat.{◌-◌, ◌≤◌}
use lib.ListN.{length, drop}
use Rattle.pieces.specs.Pieces.{walk}
use Rattle.pieces.specs.Answers.{measure_of}
use Rattle.pieces.proofs.Walks.{after}
use Rattle.pieces.proofs.measure.Given as goal

abbrev pub invariant-loop-b : goal.invariant-loop-b
invariant-loop-b l = (l.n ≤ l.p) × (after l.n (walk 0 (drop l.p l.input)) ≡ measure_of (walk 0 (drop l.from l.input)))

abbrev pub decreases-loop-b : goal.decreases-loop-b
decreases-loop-b l = length l.input - l.p
