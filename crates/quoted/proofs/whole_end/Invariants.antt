-- `whole_end` meets its contract: from each quote or backslash that it passes, the end is the same.
use mathlib.Core.Path.{◌≡◌}
use mathlib.Core.Bool.{true}
use Prim.Native.Nat.{◌-◌, ◌<◌}
use lib.ListN.{length, get_or}
use Rattle.marks.specs.Classes.{is_quote}
use Rattle.quoted.specs.Inside.{whole_from}
use Rattle.quoted.proofs.whole_end.Given as goal

abbrev pub invariant-loop-b : goal.invariant-loop-b
invariant-loop-b l = (l.p < length l.input → is_quote (get_or l.input l.p 0) ≡ true) × (whole_from l.input l.p ≡ whole_from l.input l.from)

abbrev pub decreases-loop-b : goal.decreases-loop-b
decreases-loop-b l = length l.input - l.p
