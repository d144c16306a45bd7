-- `next_token` meets its contract: each format's own reader.
use mathlib.Core.Path.{◌≡◌, ◌∙◌, sym, ap}
use Rattle.refusal.specs.declared.Format.{Format}
use Rattle.binary.specs.Binary.{binary_at}
use Rattle.text.specs.Text.{text_at}
use Rattle.lexer.specs.Lexer.{token_at, token_from}
use Rattle.lexer.proofs.next_token.Goals as goal

pub returns-in-Binary : goal.returns-in-Binary
unfolding token_at token_from binary_at text_at
returns-in-Binary c =
    let x = c.args in
    let token : _ ≡ binary_at x.input.now x.at = c.binary_token.ensures in
    token ∙ ap (λ (f : Format). token_at f x.input.now x.at) (sym c.in-Binary.is)

pub returns-in-Text : goal.returns-in-Text
unfolding token_at token_from binary_at text_at
returns-in-Text c =
    let x = c.args in
    let token : _ ≡ text_at x.input.now x.at = c.text_token.ensures in
    token ∙ ap (λ (f : Format). token_at f x.input.now x.at) (sym c.in-Text.is)
