-- `read_signed` meets its contract. Assumes nothing.
use mathlib.Core.Path.{sym, ◌∙◌}
use Rattle.number.proofs.Signs.{behind, minus_case, plus_case, signed_none, signed_minus, signed_plus}
use Rattle.number.proofs.read_signed.Goals as goal

pub returns-in_err-magnitude : goal.returns-in_err-magnitude
returns-in_err-magnitude c = c.from_residual.ensures ∙ signed_none _ _ (behind _ _ c.sign_end.ensures) c.in_err-magnitude.ensures

pub returns-then-has_minus : goal.returns-then-has_minus
returns-then-has_minus c =
    signed_minus _ _ (behind _ _ c.sign_end.ensures) _ c.in_ok-magnitude.ensures _ (sym c.if-has_minus.ensures)
    (minus_case _ _ c.checked_sub_unsigned.ensures)

pub returns : goal.returns
returns c =
    signed_plus _ _ (behind _ _ c.sign_end.ensures) _ c.in_ok-magnitude.ensures _ (sym c.if-has_minus.ensures)
    (c.ok.ensures.value ∙ plus_case _ _ c.try_from.ensures)
