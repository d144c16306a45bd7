-- `first_scalar_end` meets its contract.
use mathlib.Core.Path.{◌∙◌, sym, ap}
use Prim.Native.Nat.{ℕ}
use native.Mathlib.Omega.{arith}
use Rattle.std.specs.Prelude.{Some}
use lib.ListN.{get_or}
use Rattle.refusal.specs.Paper.{Paper, Spot}
use Rattle.token.specs.declared.Token.{Token}
use Rattle.token.specs.Meaning.{kinds_of}
use Rattle.token.specs.Marks.{mark_of, of_mark}
use Rattle.token.specs.Ends.{scalar_end}
use Rattle.token.proofs.Ends.{mark_no_scalar}
use Rattle.text.specs.Text.{plain_at}
use Rattle.text.proofs.Laws.{nothing_started, something_started, is_quoted, is_word, is_number, is_mark_lem, plain_starts, quoted_scalar_end, word_scalar_end, number_scalar_end}
use Rattle.text.proofs.first_scalar_end.Goals as goal

pub returns-then-input-p : goal.returns-then-input-p
returns-then-input-p c = let x = c.args in sym (ap (λ (q : Paper (Spot Token)). scalar_end (kinds_of q)) (nothing_started x.input.now x.p c.if-input-p.true))

pub returns-then-b-eq34 : goal.returns-then-b-eq34
returns-then-b-eq34 c =
    let x = c.args in
    let s = x.input.now in
    let b = get_or s x.p 0 in
    c.quoted_end.ensures ∙ quoted_scalar_end s x.p
    ∙ sym (ap (λ (q : Paper (Spot Token)). scalar_end (kinds_of q)) (something_started s x.p (omega arith) ∙ is_quoted s x.p b c.if-b-eq34.true))

pub returns-then-b-eq37 : goal.returns-then-b-eq37
returns-then-b-eq37 c =
    let x = c.args in
    let s = x.input.now in
    let b = get_or s x.p 0 in
    c.word_end.ensures ∙ word_scalar_end s x.p
    ∙ sym (ap (λ (q : Paper (Spot Token)). scalar_end (kinds_of q)) (something_started s x.p (omega arith) ∙ is_word s x.p b c.if-b-eq34.false c.if-b-eq37.true))

pub returns-then-starts_number : goal.returns-then-starts_number
returns-then-starts_number c =
    let x = c.args in
    let s = x.input.now in
    let b = get_or s x.p 0 in
    c.first_number_end.ensures ∙ number_scalar_end s x.p
    ∙ sym
    (ap (λ (q : Paper (Spot Token)). scalar_end (kinds_of q))
    (something_started s x.p (omega arith) ∙ is_number s x.p b c.if-b-eq34.false c.if-b-eq37.false (sym c.starts_number.ensures ∙ c.if-starts_number.true)))

pub returns-then-starts_plain : goal.returns-then-starts_plain
unfolding plain_at
returns-then-starts_plain c =
    let x = c.args in
    let s = x.input.now in
    let b = get_or s x.p 0 in
    ap Some c.plain_end.ensures
    ∙ sym (ap (λ (q : Paper (Spot Token)). scalar_end (kinds_of q)) (something_started s x.p (omega arith) ∙ plain_starts s x.p b c.if-b-eq34.false (sym c.starts_plain.ensures ∙ c.if-starts_plain.true)))

pub returns-then-b-eq35 : goal.returns-then-b-eq35
unfolding mark_of
returns-then-b-eq35 c =
    let x = c.args in
    let s = x.input.now in
    let b = get_or s x.p 0 in
    sym
    (ap (λ (q : Paper (Spot Token)). scalar_end (kinds_of q))
    (something_started s x.p (omega arith)
    ∙ is_mark_lem s x.p b c.if-b-eq34.false c.if-b-eq37.false (sym c.starts_number.ensures ∙ c.if-starts_number.false) (sym c.starts_plain.ensures ∙ c.if-starts_plain.false)
    ∙ ap (λ (n : ℕ). of_mark x.p (mark_of n)) c.if-b-eq35.true))

pub returns : goal.returns
returns c =
    let x = c.args in
    let s = x.input.now in
    let b = get_or s x.p 0 in
    sym
    (ap (λ (q : Paper (Spot Token)). scalar_end (kinds_of q))
    (something_started s x.p (omega arith)
    ∙ is_mark_lem s x.p b c.if-b-eq34.false c.if-b-eq37.false (sym c.starts_number.ensures ∙ c.if-starts_number.false) (sym c.starts_plain.ensures ∙ c.if-starts_plain.false))
    ∙ mark_no_scalar x.p b c.if-b-eq35.false)
