-- `sized_end` meets its contract.
use mathlib.Core.Path.{sym}
use native.Mathlib.Omega.{arith}
use Rattle.binary_ends.proofs.Ends.{odd_end, short_end, whole_end}
use Rattle.binary_ends.proofs.sized_end.Goals as goal

pub returns-then-value-eq1 : goal.returns-then-value-eq1
returns-then-value-eq1 c = let x = c.args in sym (odd_end x.input.now x.value x.next c.if-value-eq1.true)

pub returns-then-input-next : goal.returns-then-input-next
returns-then-input-next c = let x = c.args in sym (short_end x.input.now x.value x.next (omega arith) c.if-input-next.true)

pub returns : goal.returns
returns c = let x = c.args in sym (whole_end x.input.now x.value x.next (omega arith) c.if-input-next.false)
