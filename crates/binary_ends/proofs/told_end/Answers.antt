-- `told_end` meets its contract: an int64 of one byte, the size that eight bytes tell, or the table of markers.
use mathlib.Core.Path.{◌∙◌, sym}
use native.Mathlib.Omega.{arith}
use Rattle.binary_ends.proofs.Ends.{scalar_at}
use Rattle.binary_ends.proofs.Sizes.{small_int}
use Rattle.binary_ends.proofs.told_end.Goals as goal

pub returns-then-input-p-eq2 : goal.returns-then-input-p-eq2
returns-then-input-p-eq2 c =
    let x = c.args in
    small_int x.input.now x.at (omega arith) (omega arith) ∙ scalar_at x.input.now x.at 2 (omega arith) (omega arith)

pub returns : goal.returns
returns c =
    let x = c.args in
    let pre = c.requires in
    c.size_of-size.ensures c.if-size-eq-UNKNOWN.false (omega arith) ∙ scalar_at x.input.now x.at _ pre.0 (sym pre.1)
