-- `quote_in_32` meets its contract: while no byte is marked, the place found is the same.
use Rattle.search.proofs.Laws.{again_both, or_none}
use native.Mathlib.Omega.{arith}
use mathlib.Core.Path.{◌≡◌, sym, ap, ◌∙◌}
use lib.Bits.{bit_or}
use Rattle.search.proofs.quote_in_32.Goals as goal

pub loop-i-preserved : goal.loop-i-preserved
loop-i-preserved c = (omega arith, λ e g. again_both c.loop-i.quotes c.loop-i.backslashes _ _ _ (omega arith) c.loop-i.invariant.1 (ap (bit_or c.loop-i.quotes) (sym c.from-quotes.ensures) ∙ e) (ap (bit_or c.loop-i.backslashes) (sym c.from-backslashes.ensures) ∙ g))

pub returns : goal.returns
returns c = λ e. let q : c.loop-i.i ≡ 32 = omega arith in rw q at (c.loop-i.invariant.1 (or_none c.loop-i.quotes c.loop-i.backslashes e).0 (or_none c.loop-i.quotes c.loop-i.backslashes e).1)
