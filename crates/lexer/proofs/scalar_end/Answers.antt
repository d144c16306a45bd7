-- `scalar_end` meets its contract: each format's own reader.
use mathlib.Core.Path.{◌≡◌, ◌∙◌, sym, ap}
use Rattle.refusal.specs.declared.Format.{Format}
use Rattle.token.specs.Ends.{scalar_end}
use Rattle.token.specs.Meaning.{kinds_of}
use Rattle.binary.specs.Binary.{binary_from}
use Rattle.text.specs.Text.{text_from}
use Rattle.lexer.specs.Lexer.{kind_at, token_from}
use Rattle.lexer.proofs.scalar_end.Goals as goal

pub returns-in-Binary : goal.returns-in-Binary
unfolding kind_at token_from
returns-in-Binary c =
    let x = c.args in
    let end : _ ≡ scalar_end (kinds_of (binary_from x.input.now x.at)) = c.binary_end.ensures in
    end ∙ ap (λ (f : Format). scalar_end (kind_at f x.input.now x.at)) (sym c.in-Binary.is)

pub returns-in-Text : goal.returns-in-Text
unfolding kind_at token_from
returns-in-Text c =
    let x = c.args in
    let end : _ ≡ scalar_end (kinds_of (text_from x.input.now x.at)) = c.scalar_end.ensures in
    end ∙ ap (λ (f : Format). scalar_end (kind_at f x.input.now x.at)) (sym c.in-Text.is)
