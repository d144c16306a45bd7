-- `byte_in_32` meets its contract: while no byte is marked, the place found is the same.
use Rattle.search.proofs.Laws.{again}
use Rattle.marks.specs.Classes.{is_byte}
use native.Mathlib.Omega.{arith}
use mathlib.Core.Path.{refl, sym, ap, ◌∙◌}
use lib.Bits.{bit_or}
use Rattle.search.proofs.byte_in_32.Goals as goal

pub loop-i-preserved : goal.loop-i-preserved
unfolding is_byte
loop-i-preserved c = (omega arith, λ e. again (is_byte _) c.loop-i.found _ _ _ _ (omega arith) refl c.loop-i.invariant.1 (ap (bit_or c.loop-i.found) (sym c.from-found.ensures) ∙ e))
