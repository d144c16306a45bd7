-- `read_unsigned` meets its contract. Assumes nothing.
use mathlib.Core.Path.{sym, ◌∙◌}
use Rattle.number.proofs.Signs.{behind, unsigned_minus, unsigned_plus}
use Rattle.number.proofs.read_unsigned.Goals as goal

pub returns-then-has_minus : goal.returns-then-has_minus
returns-then-has_minus c = unsigned_minus c.args.t.now (sym c.if-has_minus.ensures)

pub returns : goal.returns
returns c = c.read_decimal.ensures ∙ unsigned_plus _ _ (behind _ _ c.sign_end.ensures) (sym c.if-has_minus.ensures)
