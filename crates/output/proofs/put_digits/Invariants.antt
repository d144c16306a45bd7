-- The digits still to write, and then those written, are the digits of x.
use Rattle.std.proofs.Common.{◌≡◌, ◌++◌, length, drop}
use Rattle.output.specs.Digits.{last_digits}
use Rattle.output.proofs.put_digits.Given as goal

abbrev pub invariant-loop-i : goal.invariant-loop-i
invariant-loop-i l = last_digits 10 l.i l.rest ++ drop l.i l.out ≡ last_digits 10 (length l.out) l.x
