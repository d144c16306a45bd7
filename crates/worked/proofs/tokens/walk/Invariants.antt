use Rattle.std.proofs.Common.{◌≤◌, ◌-◌, length}
use Rattle.worked.proofs.tokens.walk.Given as goal

abbrev pub invariant-loop-token : goal.invariant-loop-token
invariant-loop-token l = l.at ≤ length l.bytes

abbrev pub decreases-loop-token : goal.decreases-loop-token
decreases-loop-token l = length l.bytes - l.at
