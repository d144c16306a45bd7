-- `tenth_end` meets its contract: each way through it is a law of proofs/Read.antt.
use mathlib.Core.Path.{sym, ap}
use Prim.Native.Nat.{◌+◌}
use native.Mathlib.Omega.{arith}
use Rattle.varint.specs.Varint.{uvarint_end}
use Rattle.varint.proofs.Read.{nine_there, ten_more, ten_end, ten_no_end}
use Rattle.varint.proofs.tenth_end.Goals as goal

pub overflow_sub-left : goal.overflow_sub-left
overflow_sub-left c = omega (arith, nine_there c.args.input.now c.args.at c.requires)

pub returns-then-left-le9 : goal.returns-then-left-le9
returns-then-left-le9 c = sym (ap uvarint_end (ten_more _ _ c.requires c.if-left-le9.true))

pub returns-then-input-at-lt2 : goal.returns-then-input-at-lt2
returns-then-input-at-lt2 c =
    let a = c.args in
    sym (ten_end a.input.now a.at c.requires c.if-left-le9.false c.if-input-at-lt2.true)

pub returns : goal.returns
returns c =
    let a = c.args in
    sym (ten_no_end a.input.now a.at c.requires c.if-left-le9.false c.if-input-at-lt2.false (c.type_inv.input (a.at + 9)).fits)
