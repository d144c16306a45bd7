-- `text_token` meets its contract: what is ignored is passed, and the rest is the token's first byte.
use mathlib.Core.Path.{◌∙◌, sym, ap}
use native.Mathlib.Omega.{arith}
use Rattle.text.specs.Text.{started_at}
use Rattle.text.proofs.Laws.{beyond, from_is, nothing_started, something_started}
use Rattle.text.proofs.text_token.Goals as goal

pub returns-then-input-at : goal.returns-then-input-at
returns-then-input-at c = let x = c.args in sym (beyond x.input.now x.at c.if-input-at.true)

pub returns-then-input-p : goal.returns-then-input-p
returns-then-input-p c =
    let x = c.args in
    let s = x.input.now in
    let e = ap (started_at s) c.skip_ignored-p.ensures in
    sym (from_is s x.at c.if-input-at.false ∙ sym e ∙ nothing_started s _ c.if-input-p.true)

pub returns : goal.returns
returns c =
    let x = c.args in
    let s = x.input.now in
    let k = c.skip_ignored-p in
    let e = ap (started_at s) k.ensures in
    c.first_token.ensures ∙ sym (something_started s k.result (omega arith)) ∙ e ∙ sym (from_is s x.at c.if-input-at.false)
