-- `value_end` meets its contract: a quote starts a string.
use mathlib.Core.Path.{◌∙◌, ap}
use Prim.Native.Nat.{ℕ}
use Rattle.refusal.specs.declared.Format.TheVariants.{Text}
use Rattle.token.specs.Ends.{scalar_end}
use Rattle.text.proofs.Callers.{quote_ends}
use Rattle.lexer.specs.Lexer.{token_from, kind_at, skip_of}
use Rattle.lexer.proofs.Laws.{skip_same}
use Rattle.scan.proofs.value_end.Goals as goal

pub returns-then-input-p-eq34 : goal.returns-then-input-p-eq34
unfolding kind_at token_from skip_of
returns-then-input-p-eq34 c =
    let x = c.args in
    c.quoted_end.ensures ∙ quote_ends x.input.now x.at _ c.skip-p.ensures c.if-p-input.true c.if-input-p-eq34.true

pub returns : goal.returns
returns c =
    let x = c.args in
    let s = x.input.now in
    c.scalar_end.ensures ∙ ap (λ (p : ℕ). scalar_end (kind_at Text s p)) c.skip-p.ensures ∙ ap scalar_end (skip_same Text s x.at)
