-- `text_string_bytes` meets its contract.
use mathlib.Core.Path.{◌≡◌, refl, sym, ap, ◌∙◌}
use Rattle.token.specs.Strings.{bytes_answer, bytes_written}
use Rattle.blanks.specs.Skip.{skip_from}
use Rattle.strings.proofs.Laws.{handed}
use Rattle.text.specs.Strings.{string_started_at}
use Rattle.text.proofs.Laws.{string_beyond, string_from}
use Rattle.text.proofs.text_string_bytes.Goals as goal

pub returns-then-input-at-clause-answer : goal.returns-then-input-at-clause-answer
unfolding bytes_answer bytes_written
returns-then-input-at-clause-answer c =
    let x = c.args in
    (handed x.out.now (sym (string_beyond x.input.now x.at c.if-input-at.true)) (refl, refl)).0

pub returns-then-input-at-clause-written : goal.returns-then-input-at-clause-written
unfolding bytes_answer bytes_written
returns-then-input-at-clause-written c =
    let x = c.args in
    (handed x.out.now (sym (string_beyond x.input.now x.at c.if-input-at.true)) (refl, refl)).1

pub returns-clause-answer : goal.returns-clause-answer
returns-clause-answer c =
    let x = c.args in
    let s = x.input.now in
    let first : _ ≡ skip_from s x.at = c.skip_ignored.ensures in
    let e = ap (string_started_at s) first ∙ sym (string_from s x.at c.if-input-at.false) in
    (handed x.out.now e (c.first_bytes.ensures.answer, c.first_bytes.ensures.written)).0

pub returns-clause-written : goal.returns-clause-written
returns-clause-written c =
    let x = c.args in
    let s = x.input.now in
    let first : _ ≡ skip_from s x.at = c.skip_ignored.ensures in
    let e = ap (string_started_at s) first ∙ sym (string_from s x.at c.if-input-at.false) in
    (handed x.out.now e (c.first_bytes.ensures.answer, c.first_bytes.ensures.written)).1
