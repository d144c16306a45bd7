-- `first_token` meets its contract: each test is one of the definition's.
use mathlib.Core.Path.{◌≡◌, ◌∙◌, sym}
use native.Mathlib.Omega.{arith}
use lib.ListN.{get_or}
use Rattle.token.specs.Marks.{mark_at}
use Rattle.token.proofs.Marks.{mark_inside}
use Rattle.text.proofs.Laws.{is_quoted, is_word, is_number, is_plain, is_mark_lem}
use Rattle.text.proofs.first_token.Goals as goal

pub returns-then-b-eq34 : goal.returns-then-b-eq34
returns-then-b-eq34 c =
    let x = c.args in
    let s = x.input.now in
    let b = get_or s x.p 0 in
    c.quoted_token.ensures ∙ sym (is_quoted s x.p b c.if-b-eq34.true)

pub returns-then-b-eq37 : goal.returns-then-b-eq37
returns-then-b-eq37 c =
    let x = c.args in
    let s = x.input.now in
    let b = get_or s x.p 0 in
    c.word_token.ensures ∙ sym (is_word s x.p b c.if-b-eq34.false c.if-b-eq37.true)

pub returns-then-starts_number : goal.returns-then-starts_number
returns-then-starts_number c =
    let x = c.args in
    let s = x.input.now in
    let b = get_or s x.p 0 in
    c.number_token.ensures
    ∙ sym (is_number s x.p b c.if-b-eq34.false c.if-b-eq37.false (sym c.starts_number.ensures ∙ c.if-starts_number.true))

pub returns-then-starts_plain : goal.returns-then-starts_plain
returns-then-starts_plain c =
    let x = c.args in
    let s = x.input.now in
    let b = get_or s x.p 0 in
    c.plain_token.ensures
    ∙ sym
    (is_plain s x.p b c.if-b-eq34.false c.if-b-eq37.false (sym c.starts_number.ensures ∙ c.if-starts_number.false) (sym c.starts_plain.ensures ∙ c.if-starts_plain.true))

pub returns : goal.returns
returns c =
    let x = c.args in
    let s = x.input.now in
    let b = get_or s x.p 0 in
    let mark : _ ≡ mark_at s x.p = c.mark_at.ensures in
    mark ∙ mark_inside s x.p (omega arith)
    ∙ sym
    (is_mark_lem s x.p b c.if-b-eq34.false c.if-b-eq37.false (sym c.starts_number.ensures ∙ c.if-starts_number.false) (sym c.starts_plain.ensures ∙ c.if-starts_plain.false))
