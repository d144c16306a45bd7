-- `other_end` meets its contract: a string, or the table of markers.
use mathlib.Core.Path.{◌∙◌, sym}
use Rattle.binary_ends.proofs.Ends.{string_is, scalar_at}
use Rattle.binary_ends.proofs.other_end.Goals as goal

pub returns-then-b-eq1 : goal.returns-then-b-eq1
returns-then-b-eq1 c =
    let x = c.args in
    let pre = c.requires in
    c.string_at_end.ensures ∙ string_is x.input.now x.at ∙ scalar_at x.input.now x.at _ pre.0 (sym pre.1 ∙ c.if-b-eq1.true)
