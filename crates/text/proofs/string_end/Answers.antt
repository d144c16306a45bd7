-- `string_end` meets its contract.
use mathlib.Core.Path.{◌∙◌, ap}
use Prim.Native.Nat.{ℕ}
use Rattle.token.specs.Meaning.{kinds_of}
use Rattle.token.specs.Ends.{string_end}
use Rattle.text.specs.Text.{started_at, text_from}
use Rattle.text.proofs.string_end.Goals as goal

pub returns : goal.returns
unfolding text_from
returns c = let s = c.args.input.now in c.first_string_end.ensures ∙ ap (λ (p : ℕ). string_end (kinds_of (started_at s p))) c.first_place.ensures
