-- `skip_ignored` meets its contract: in each of its three loops the place that it goes to is the one from the start.
use mathlib.Core.Path.{◌≡◌}
use Prim.Native.Nat.{◌≤◌, ◌-◌}
use lib.ListN.{length}
use Rattle.blanks.specs.Skip.{skip_from}
use Rattle.blanks.proofs.Ways.{line_from, block_from}
use Rattle.blanks.proofs.skip_ignored.Given as goal

abbrev pub invariant-line : goal.invariant-line
invariant-line l = (l.initial.p ≤ l.p) × (line_from l.input l.p ≡ skip_from l.input l.at)

abbrev pub decreases-line : goal.decreases-line
decreases-line l = length l.input - l.p

abbrev pub invariant-block : goal.invariant-block
invariant-block l = (l.initial.p ≤ l.p) × (block_from l.input l.p ≡ skip_from l.input l.at)

abbrev pub decreases-block : goal.decreases-block
decreases-block l = length l.input - l.p

abbrev pub invariant-blanks : goal.invariant-blanks
invariant-blanks l = skip_from l.input l.p ≡ skip_from l.input l.at

abbrev pub decreases-blanks : goal.decreases-blanks
decreases-blanks l = length l.input - l.p
