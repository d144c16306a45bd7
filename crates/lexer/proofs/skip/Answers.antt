-- `skip` meets its contract: nothing is ignored in binary.
use mathlib.Core.Path.{◌≡◌, ◌∙◌, sym, ap}
use Rattle.refusal.specs.declared.Format.{Format}
use Rattle.blanks.specs.Skip.{skip_from}
use Rattle.lexer.specs.Lexer.{skip_of}
use Rattle.lexer.proofs.skip.Goals as goal

pub returns-in-Binary : goal.returns-in-Binary
unfolding skip_of
returns-in-Binary c = let x = c.args in ap (λ (f : Format). skip_of f x.input.now x.at) (sym c.in-Binary.is)

pub returns-in-Text : goal.returns-in-Text
unfolding skip_of
returns-in-Text c =
    let x = c.args in
    let place : _ ≡ skip_from x.input.now x.at = c.first_place.ensures in
    place ∙ ap (λ (f : Format). skip_of f x.input.now x.at) (sym c.in-Text.is)
