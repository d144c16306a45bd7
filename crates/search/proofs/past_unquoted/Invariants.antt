-- `past_unquoted` meets its contract: each block passed holds nothing.
use Rattle.marks.specs.Classes.{is_quote}
use Rattle.search.specs.First.{first_from}
use lib.ListN.{length}
use Prim.Native.Nat.{◌+◌, ◌-◌, ◌≤◌}
use mathlib.Core.Path.{◌≡◌}
use Rattle.search.proofs.past_unquoted.Given as goal

abbrev pub invariant-loop-p : goal.invariant-loop-p
invariant-loop-p l = (l.last + 32 ≤ length l.s) × (first_from is_quote l.s l.p ≡ first_from is_quote l.s l.at)

abbrev pub decreases-loop-p : goal.decreases-loop-p
decreases-loop-p l = length l.s - l.p
