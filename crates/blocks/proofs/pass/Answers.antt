-- `pass` meets its contract: the tokens are read from the kept place on, until one reading stops them.
use mathlib.Core.Path.{sym, ◌∙◌}
use Prim.Native.Nat.{◌+◌}
use native.Mathlib.Omega.{arith}
use Rattle.blocks.specs.Readings.{read_on, binary}
use Rattle.blocks.proofs.Laws.{binary_grows, read_turn, read_end, pass_few, pass_many}
use Rattle.blocks.proofs.pass.Goals as goal

pub returns-then-blocks-gt-MOST_OPEN : goal.returns-then-blocks-gt-MOST_OPEN
returns-then-blocks-gt-MOST_OPEN c = sym (pass_many _ _ _ c.if-blocks-gt-MOST_OPEN.true)

pub returns-then-whole : goal.returns-then-whole
returns-then-whole c =
    rw c.if-whole.true at c.in-Ok.ensures.reads (read_on binary c.args.input.now) (c.loop-place.readings + 1)
    ∙ sym (pass_few _ _ _ c.if-blocks-gt-MOST_OPEN.false ∙ c.loop-place.invariant.reads ∙ read_turn binary binary_grows _ _ _ _ c.loop-place-test.true)

pub loop-place-preserved : goal.loop-place-preserved
loop-place-preserved c = record {
  count = omega (arith, c.in-Ok.ensures.ahead);
  few = c.in-Ok.ensures.few;
  reads =
      c.loop-place.invariant.reads ∙ read_turn binary binary_grows _ _ _ _ c.loop-place-test.true
      ∙ sym (rw c.if-whole.false at c.in-Ok.ensures.reads (read_on binary c.args.input.now) (c.loop-place.readings + 1));
}

pub returns-in-Err : goal.returns-in-Err
returns-in-Err c =
    c.in-Err.ensures.reads (read_on binary c.args.input.now) (c.loop-place.readings + 1)
    ∙ sym (pass_few _ _ _ c.if-blocks-gt-MOST_OPEN.false ∙ c.loop-place.invariant.reads ∙ read_turn binary binary_grows _ _ _ _ c.loop-place-test.true)

pub returns : goal.returns
returns c = sym (pass_few _ _ _ c.if-blocks-gt-MOST_OPEN.false ∙ c.loop-place.invariant.reads ∙ read_end binary binary_grows _ _ _ _ c.loop-place-test.false)
