-- `string_token` meets its contract: the varint's answer, and then the length by its parity and the bytes left.
use mathlib.Core.Path.{◌∙◌, sym, ap}
use Rattle.std.proofs.Common.{rules, arith, ◌+◌}
use Rattle.refusal.specs.Meaning.{refusal_meaning}
use Rattle.varint.specs.Signed.{varint_at}
use Rattle.varint.proofs.Round.{within}
use Rattle.binary.proofs.Laws.{behind_gives, string_sized, size_odd, size_short, size_whole}
use Rattle.binary.proofs.string_token.Goals as goal

pub returns-in_err-value : goal.returns-in_err-value
unfolding varint_at
returns-in_err-value c = search rules

pub returns-then-value-eq1 : goal.returns-then-value-eq1
returns-then-value-eq1 c =
    let x = c.args in
    let v = c.in_ok-value.field-0 in
    let e = behind_gives x.at _ _ c.in_ok-value.ensures in
    ap refusal_meaning c.at.ensures ∙ sym (string_sized x.input.now x.at v.value v.next e ∙ size_odd x.input.now x.at v.value v.next (omega arith))

pub overflow_sub-input : goal.overflow_sub-input
overflow_sub-input c =
    let x = c.args in
    (within x.input.now (x.at + 1) _ _ (behind_gives x.at _ _ c.in_ok-value.ensures)).1

pub returns-then-input-next : goal.returns-then-input-next
returns-then-input-next c =
    let x = c.args in
    let v = c.in_ok-value.field-0 in
    let e = behind_gives x.at _ _ c.in_ok-value.ensures in
    sym (string_sized x.input.now x.at v.value v.next e ∙ size_short x.input.now x.at v.value v.next (omega arith) (omega arith))

pub returns : goal.returns
returns c =
    let x = c.args in
    let v = c.in_ok-value.field-0 in
    let e = behind_gives x.at _ _ c.in_ok-value.ensures in
    sym (string_sized x.input.now x.at v.value v.next e ∙ size_whole x.input.now x.at v.value v.next (omega arith) (omega arith))
