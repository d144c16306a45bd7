-- `read_uvarint` meets its contract: the bytes passed are read, as proofs/Read.antt says, and the tenth is left to `tenth`.
use mathlib.Core.Path.{sym, refl}
use Prim.Native.Nat.{zero-le}
use Rattle.varint.specs.Varint.{number}
use Rattle.varint.proofs.Read.{at_beyond, walk_more, walk_on, part_fits, sum_fits, weight_fits, sum_on, walk_value}
use Rattle.varint.proofs.read_uvarint.Goals as goal

pub returns-then-input-at : goal.returns-then-input-at
returns-then-input-at c =
    let a = c.args in
    let beyond = sym (at_beyond a.input.now a.at c.if-input-at.true) in
    beyond

pub loop-i-init : goal.loop-i-init
unfolding number
loop-i-init c = ((zero-le, zero-le, zero-le), (refl, refl))

pub returns-then-left-i : goal.returns-then-left-i
returns-then-left-i c =
    let l = c.loop-i in
    sym (walk_more _ _ l.i c.if-input-at.false l.invariant.0 c.if-left-i.true)

pub overflow_mul-value : goal.overflow_mul-value
overflow_mul-value c =
    let l = c.loop-i in
    record { fits = part_fits _ _ l.i c.if-input-at.false l.invariant.0 c.loop-i-test.true c.if-left-i.false c.from-b.result l.value l.weight c.from-b.ensures l.invariant.1 }

pub overflow_add-value : goal.overflow_add-value
overflow_add-value c =
    let l = c.loop-i in
    record { fits = sum_fits _ _ l.i c.if-input-at.false l.invariant.0 c.loop-i-test.true c.if-left-i.false c.from-b.result l.value l.weight c.from-b.ensures l.invariant.1 }

pub returns-then-b-lt128 : goal.returns-then-b-lt128
returns-then-b-lt128 c =
    let l = c.loop-i in
    walk_value _ _ l.i c.if-input-at.false l.invariant.0 c.loop-i-test.true c.if-left-i.false c.from-b.result l.value l.weight c.from-b.ensures l.invariant.1 c.if-b-lt128.true

pub overflow_mul-weight : goal.overflow_mul-weight
overflow_mul-weight c =
    let l = c.loop-i in
    record { fits = weight_fits _ _ l.i c.if-input-at.false l.invariant.0 c.loop-i-test.true c.if-left-i.false c.from-b.result l.value l.weight c.from-b.ensures l.invariant.1 }

pub loop-i-preserved : goal.loop-i-preserved
loop-i-preserved c =
    let l = c.loop-i in
    (walk_on _ _ l.i c.if-input-at.false l.invariant.0 c.loop-i-test.true c.if-left-i.false (rw c.from-b.ensures at c.if-b-lt128.false), sum_on _ _ l.i c.if-input-at.false l.invariant.0 c.loop-i-test.true c.if-left-i.false c.from-b.result l.value l.weight c.from-b.ensures l.invariant.1)
