-- `tenth` meets its contract: each way through it is a law of proofs/Read.antt.
use mathlib.Core.Path.{sym, ap, ◌∙◌}
use native.Mathlib.Omega.{arith}
use Rattle.refusal.specs.Meaning.{refusal_meaning}
use Rattle.varint.proofs.Read.{nine_there, nine_lt, ten_more, ten_wide, ten_value, ten_out, ten_long}
use Rattle.varint.proofs.tenth.Goals as goal

pub overflow_sub-left : goal.overflow_sub-left
overflow_sub-left c = omega (arith, nine_there c.args.input.now c.args.at c.requires.0)

pub returns-then-left-le9 : goal.returns-then-left-le9
returns-then-left-le9 c = sym (ten_more _ _ c.requires.0 c.if-left-le9.true)

pub returns-then-last-gt1 : goal.returns-then-last-gt1
returns-then-last-gt1 c =
    let a = c.args in
    let refused = sym (ten_wide a.input.now a.at c.requires.0 c.if-left-le9.false c.from-last.result c.from-last.ensures c.if-last-gt1.true) in
    ap refusal_meaning c.at.ensures ∙ refused

pub overflow_add-result : goal.overflow_add-result
overflow_add-result c =
    omega (arith, nine_lt c.args.input.now c.args.at c.requires.0 c.if-left-le9.false)

pub returns-then-last-lt128 : goal.returns-then-last-lt128
returns-then-last-lt128 c =
    let p = c.requires in
    sym (ten_value _ _ p.0 c.if-left-le9.false c.from-last.result c.from-last.ensures c.if-last-gt1.false _ p.1 c.if-last-lt128.true)

pub returns-then-left-le10 : goal.returns-then-left-le10
returns-then-left-le10 c =
    sym (ten_out _ _ c.requires.0 c.if-left-le9.false c.from-last.result c.from-last.ensures c.if-last-gt1.false c.if-last-lt128.false c.if-left-le10.true)

pub returns : goal.returns
returns c =
    ap refusal_meaning c.at-2.ensures ∙ sym (ten_long _ _ c.requires.0 c.if-left-le9.false c.from-last.result c.from-last.ensures c.if-last-gt1.false c.if-last-lt128.false c.if-left-le10.false)
