-- `mark_at` meets its contract.
use mathlib.Core.Path.{◌∙◌, sym}
use native.Mathlib.Omega.{arith}
use Rattle.token.proofs.Marks.{mark_beyond, mark_ended, mark_inside}
use Rattle.token.proofs.mark_at.Goals as goal

pub returns-then-input-at : goal.returns-then-input-at
returns-then-input-at c =
    let x = c.args in
    sym (mark_beyond x.input.now x.at c.if-input-at.true)

pub returns-then-input-at-2 : goal.returns-then-input-at-2
returns-then-input-at-2 c =
    let x = c.args in
    sym (mark_ended x.input.now x.at (omega arith) (omega arith))

pub returns : goal.returns
returns c = c.mark_of.ensures ∙ sym (mark_inside c.args.input.now c.args.at (omega arith))
