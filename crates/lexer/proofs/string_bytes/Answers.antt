-- `string_bytes` meets its contract: each format's own reader.
use mathlib.Core.Path.{◌≡◌, ◌∙◌, sym, ap}
use lib.ListN.{length}
use Rattle.refusal.specs.declared.Format.{Format}
use Rattle.token.specs.Strings.{bytes_answer, bytes_written}
use Rattle.binary.specs.Strings.{binary_string_at}
use Rattle.text.specs.Strings.{text_string_at}
use Rattle.lexer.specs.Lexer.{string_at}
use Rattle.lexer.proofs.string_bytes.Goals as goal

pub returns-in-Binary-clause-answer : goal.returns-in-Binary-clause-answer
unfolding string_at
returns-in-Binary-clause-answer c =
    let x = c.args in
    let s = x.input.now in
    let o = x.out.now in
    let e = sym c.in-Binary.is in
    let w = c.binary_string_bytes.ensures in
    let answer : _ ≡ bytes_answer (binary_string_at s x.at) (length o) = w.answer in
    answer ∙ ap (λ (f : Format). bytes_answer (string_at f s x.at) (length o)) e

pub returns-in-Binary-clause-written : goal.returns-in-Binary-clause-written
unfolding string_at
returns-in-Binary-clause-written c =
    let x = c.args in
    let s = x.input.now in
    let o = x.out.now in
    let e = sym c.in-Binary.is in
    let w = c.binary_string_bytes.ensures in
    let answer : _ ≡ bytes_answer (binary_string_at s x.at) (length o) = w.answer in
    w.written ∙ ap (λ (f : Format). bytes_written (string_at f s x.at) o) e

pub returns-in-Text-clause-answer : goal.returns-in-Text-clause-answer
unfolding string_at
returns-in-Text-clause-answer c =
    let x = c.args in
    let s = x.input.now in
    let o = x.out.now in
    let e = sym c.in-Text.is in
    let w = c.text_string_bytes.ensures in
    let answer : _ ≡ bytes_answer (text_string_at s x.at) (length o) = w.answer in
    answer ∙ ap (λ (f : Format). bytes_answer (string_at f s x.at) (length o)) e

pub returns-in-Text-clause-written : goal.returns-in-Text-clause-written
unfolding string_at
returns-in-Text-clause-written c =
    let x = c.args in
    let s = x.input.now in
    let o = x.out.now in
    let e = sym c.in-Text.is in
    let w = c.text_string_bytes.ensures in
    let answer : _ ≡ bytes_answer (text_string_at s x.at) (length o) = w.answer in
    w.written ∙ ap (λ (f : Format). bytes_written (string_at f s x.at) o) e
