-- `exponent_end` meets its contract. Assumes nothing.
use mathlib.Core.Path.{sym, ap, ◌∙◌}
use native.Mathlib.Omega.{arith}
use borrow.Author.Tests.{ltb-true, ltb-false}
use Rattle.number.specs.Bytes.{is_exponent}
use Rattle.number.proofs.Ends.{tested, exponent_out, exponent_not, exponent_some, exponent_none}
use Rattle.number.proofs.grammar.exponent_end.Goals as goal

pub returns-in-Some : goal.returns-in-Some
returns-in-Some c =
    let z = c.in-Some.ensures.lookup.3 in
    let e = ap is_exponent (sym (z.1 0)) ∙ sym c.if-is_exponent.ensures in
    let a = c.sign_end-a.ensures in
    let b = c.digits_end-b.ensures in
    rw c.then_some.ensures
    (tested _ _ _ _ _ (λ q. exponent_some _ _ z.0 e _ _ a b (ltb-true _ _ q)) (λ q. exponent_none _ _ z.0 e _ _ a b (ltb-false _ _ q)) (omega (arith, z.0, a.low, a.high, b.high)))

pub returns-in_default : goal.returns-in_default
returns-in_default c =
    let z = c.in-Some.ensures.lookup.3 in
    record { rest = exponent_not _ _ z.0 (rw (← z.1 0) (sym c.if-is_exponent.ensures)); high = omega arith }

pub returns-in_default-2 : goal.returns-in_default-2
returns-in_default-2 c =
    let y = rw c.in_default.is at c.get.ensures.lookup in
    record { rest = exponent_out _ _ y.3; high = omega arith }
