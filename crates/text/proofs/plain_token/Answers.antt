-- `plain_token` meets its contract.
use mathlib.Core.Path.{ap}
use Prim.Native.Nat.{ℕ, ◌-◌}
use native.Mathlib.Omega.{arith}
use Rattle.refusal.specs.Paper.{gives, spot}
use Rattle.token.specs.declared.Token.TheVariants.{String}
use Rattle.words.proofs.Laws.{plain_from}
use Rattle.text.specs.Text.{plain_at}
use Rattle.text.proofs.plain_token.Goals as goal

pub overflow_sub-result : goal.overflow_sub-result
overflow_sub-result c = let x = c.args in omega (arith, plain_from x.input.now x.p)

pub returns : goal.returns
unfolding plain_at
returns c = let x = c.args in ap (λ (e : ℕ). gives (spot (String x.p (e - x.p)) x.p e)) c.plain_end-end.ensures
