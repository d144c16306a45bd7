-- `first_bytes` meets its contract: a quoted string by its own reader, any other token by its own answer and then its bytes.
use mathlib.Core.Path.{refl, sym, ap, ◌∙◌}
use native.Mathlib.Omega.{arith}
use Rattle.token.specs.Strings.{bytes_answer, bytes_written, string_found}
use Rattle.strings.proofs.Laws.{handed}
use Rattle.text.proofs.Laws.{no_string_started, quoted_string_started, other_string_started}
use Rattle.text.proofs.first_bytes.Goals as goal

pub returns-then-input-p-clause-answer : goal.returns-then-input-p-clause-answer
unfolding bytes_answer bytes_written
returns-then-input-p-clause-answer c =
    let x = c.args in
    (handed x.out.now (sym (no_string_started x.input.now x.p c.if-input-p.true)) (refl, refl)).0

pub returns-then-input-p-clause-written : goal.returns-then-input-p-clause-written
unfolding bytes_answer bytes_written
returns-then-input-p-clause-written c =
    let x = c.args in
    (handed x.out.now (sym (no_string_started x.input.now x.p c.if-input-p.true)) (refl, refl)).1

pub returns-then-input-p-eq34-clause-answer : goal.returns-then-input-p-eq34-clause-answer
returns-then-input-p-eq34-clause-answer c =
    let x = c.args in
    let e = quoted_string_started x.input.now x.p (omega arith) c.if-input-p-eq34.true in
    (handed x.out.now (sym e) (c.unescape.ensures.answer, c.unescape.ensures.written)).0

pub returns-then-input-p-eq34-clause-written : goal.returns-then-input-p-eq34-clause-written
returns-then-input-p-eq34-clause-written c =
    let x = c.args in
    let e = quoted_string_started x.input.now x.p (omega arith) c.if-input-p-eq34.true in
    (handed x.out.now (sym e) (c.unescape.ensures.answer, c.unescape.ensures.written)).1

pub returns-clause-answer : goal.returns-clause-answer
returns-clause-answer c =
    let x = c.args in
    let s = x.input.now in
    let e = other_string_started s x.p (omega arith) c.if-input-p-eq34.false in
    (handed x.out.now (ap (string_found s) c.first_token.ensures ∙ sym e) (c.found_bytes.ensures.answer, c.found_bytes.ensures.written)).0

pub returns-clause-written : goal.returns-clause-written
returns-clause-written c =
    let x = c.args in
    let s = x.input.now in
    let e = other_string_started s x.p (omega arith) c.if-input-p-eq34.false in
    (handed x.out.now (ap (string_found s) c.first_token.ensures ∙ sym e) (c.found_bytes.ensures.answer, c.found_bytes.ensures.written)).1
