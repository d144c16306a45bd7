-- `sign_end` meets its contract. Assumes nothing.
use mathlib.Core.Path.{sym}
use native.Mathlib.Omega.{arith}
use Rattle.number.proofs.Ends.{sign_there, sign_not, sign_out}
use Rattle.number.proofs.grammar.sign_end.Goals as goal

pub returns-in-Some : goal.returns-in-Some
returns-in-Some c =
    let z = c.in-Some.ensures.lookup.3 in
    record { rest = sign_there _ _ z.0 (rw (← z.1 0) (sym c.if-is_sign.ensures)); low = omega arith; high = omega (arith, z.0) }

pub returns-in_default : goal.returns-in_default
returns-in_default c =
    let z = c.in-Some.ensures.lookup.3 in
    record { rest = sign_not _ _ z.0 (rw (← z.1 0) (sym c.if-is_sign.ensures)); low = omega arith; high = omega arith }

pub returns-in_default-2 : goal.returns-in_default-2
returns-in_default-2 c =
    let y = rw c.in_default.is at c.get.ensures.lookup in
    record { rest = sign_out _ _ y.3; low = omega arith; high = omega arith }
