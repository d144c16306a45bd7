-- `uvarint_end` meets its contract: the reader's walk, without its sum.
use mathlib.Core.Path.{sym, ap}
use Rattle.varint.specs.Varint.{uvarint_end}
use Rattle.varint.proofs.Read.{at_beyond, walk_more, walk_on, walk_stop}
use Rattle.varint.proofs.uvarint_end.Goals as goal

pub returns-then-input-at : goal.returns-then-input-at
returns-then-input-at c = sym (ap uvarint_end (at_beyond _ _ c.if-input-at.true))

pub returns-then-left-i : goal.returns-then-left-i
returns-then-left-i c =
    let l = c.loop-i in
    sym (ap uvarint_end (walk_more _ _ l.i c.if-input-at.false l.invariant c.if-left-i.true))

pub returns-then-input-at-lt128 : goal.returns-then-input-at-lt128
returns-then-input-at-lt128 c =
    let l = c.loop-i in
    sym (ap uvarint_end (walk_stop _ _ l.i c.if-input-at.false l.invariant c.loop-i-test.true c.if-left-i.false c.if-input-at-lt128.true))

pub loop-i-preserved : goal.loop-i-preserved
loop-i-preserved c =
    let l = c.loop-i in
    walk_on _ _ l.i c.if-input-at.false l.invariant c.loop-i-test.true c.if-left-i.false c.if-input-at-lt128.false
