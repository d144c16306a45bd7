-- `first_string_end` meets its contract.
use mathlib.Core.Path.{◌∙◌, sym, ap}
use native.Mathlib.Omega.{arith}
use Rattle.std.specs.Prelude.{Some}
use lib.ListN.{get_or}
use Rattle.refusal.specs.Paper.{Paper, Spot}
use Rattle.token.specs.declared.Token.{Token}
use Rattle.token.specs.Meaning.{kinds_of}
use Rattle.token.specs.Ends.{string_end}
use Rattle.text.specs.Text.{plain_at}
use Rattle.text.proofs.Laws.{nothing_started, something_started, is_quoted, plain_starts, quoted_string_end, no_string}
use Rattle.text.proofs.first_string_end.Goals as goal

pub returns-then-input-p : goal.returns-then-input-p
returns-then-input-p c = let x = c.args in sym (ap (λ (q : Paper (Spot Token)). string_end (kinds_of q)) (nothing_started x.input.now x.p c.if-input-p.true))

pub returns-then-b-eq34 : goal.returns-then-b-eq34
returns-then-b-eq34 c =
    let x = c.args in
    let s = x.input.now in
    let b = get_or s x.p 0 in
    c.quoted_end.ensures ∙ quoted_string_end s x.p
    ∙ sym (ap (λ (q : Paper (Spot Token)). string_end (kinds_of q)) (something_started s x.p (omega arith) ∙ is_quoted s x.p b c.if-b-eq34.true))

pub returns-then-starts_plain : goal.returns-then-starts_plain
unfolding plain_at
returns-then-starts_plain c =
    let x = c.args in
    let s = x.input.now in
    let b = get_or s x.p 0 in
    ap Some c.plain_end.ensures
    ∙ sym (ap (λ (q : Paper (Spot Token)). string_end (kinds_of q)) (something_started s x.p (omega arith) ∙ plain_starts s x.p b c.if-b-eq34.false (sym c.starts_plain.ensures ∙ c.if-starts_plain.true)))

pub returns : goal.returns
returns c =
    let x = c.args in
    let s = x.input.now in
    let b = get_or s x.p 0 in
    sym (ap (λ (q : Paper (Spot Token)). string_end (kinds_of q)) (something_started s x.p (omega arith)) ∙ no_string s x.p b c.if-b-eq34.false (sym c.starts_plain.ensures ∙ c.if-starts_plain.false))
