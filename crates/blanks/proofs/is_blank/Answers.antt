-- `is_blank` meets its contract: the five tests are those of the definition, in another order.
use mathlib.Core.Path.{ap, sym}
use Rattle.blanks.specs.Skip.{is_blank}
use Rattle.blanks.proofs.Ways.{blank_rest}
use Rattle.blanks.proofs.is_blank.Goals as goal

pub returns-then-b-eq32 : goal.returns-then-b-eq32
unfolding is_blank
returns-then-b-eq32 c = ap is_blank (sym c.if-b-eq32.true)

pub returns-then-b-eq10 : goal.returns-then-b-eq10
unfolding is_blank
returns-then-b-eq10 c = ap is_blank (sym c.if-b-eq10.true)

pub returns-then-b-eq13 : goal.returns-then-b-eq13
unfolding is_blank
returns-then-b-eq13 c = ap is_blank (sym c.if-b-eq13.true)

pub returns-then-b-eq9 : goal.returns-then-b-eq9
unfolding is_blank
returns-then-b-eq9 c = ap is_blank (sym c.if-b-eq9.true)

pub returns : goal.returns
returns c = blank_rest _ c.if-b-eq32.false c.if-b-eq10.false c.if-b-eq13.false c.if-b-eq9.false
