-- `count_tokens` meets its contract: at each turn, the count from the place reached is the count from the first byte.
use mathlib.Core.Path.{◌≡◌}
use Prim.Native.Nat.{◌-◌, ◌≤◌}
use lib.ListN.{length}
use Rattle.lookup.specs.Count.{count_from, count_of}
use Rattle.lookup.proofs.count_tokens.Given as goal

abbrev pub invariant-loop-end : goal.invariant-loop-end
invariant-loop-end l =
    (l.count ≤ l.end) × (l.end ≤ length l.input) × (count_from l.format l.input l.count l.end ≡ count_of l.format l.input)

abbrev pub decreases-loop-end : goal.decreases-loop-end
decreases-loop-end l = length l.input - l.end
