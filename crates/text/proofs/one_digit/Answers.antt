-- `one_digit` meets its contract.
use native.Mathlib.Omega.{arith}
use Rattle.text.proofs.Single.{one_digit_lem}
use Rattle.text.proofs.one_digit.Goals as goal

pub returns : goal.returns
returns c =
    λ e. let x = c.args in
    (omega arith, omega arith, omega arith, one_digit_lem x.input.now x.p (omega arith) (omega arith) (omega arith) (omega arith))
