-- `scalar_end` meets its contract.
use mathlib.Core.Path.{◌∙◌, ap}
use Prim.Native.Nat.{ℕ}
use Rattle.token.specs.Meaning.{kinds_of}
use Rattle.token.specs.Ends.{scalar_end}
use Rattle.text.specs.Text.{started_at, text_from}
use Rattle.text.proofs.Single.{digit_token}
use Rattle.text.proofs.scalar_end.Goals as goal

pub returns-then-one_digit : goal.returns-then-one_digit
returns-then-one_digit c = let h = c.one_digit.ensures c.if-one_digit.true in h.3 ∙ digit_token c.args.input.now c.args.at h.0 h.1 h.2

pub returns : goal.returns
unfolding text_from
returns c = let s = c.args.input.now in c.first_scalar_end.ensures ∙ ap (λ (p : ℕ). scalar_end (kinds_of (started_at s p))) c.first_place.ensures
