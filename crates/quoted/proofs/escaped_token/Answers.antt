-- `escaped_token` meets its contract: one law for each way through the definition.
use mathlib.Core.Path.{sym}
use native.Mathlib.Omega.{arith}
use Rattle.quoted.proofs.Answers.{way_unclosed, way_bad, way_cut, way_escaped, close_bounds}
use Rattle.quoted.proofs.escaped_token.Goals as goal

pub returns-in_default : goal.returns-in_default
returns-in_default c = grind (arith, way_unclosed _ _ _ c.requires)

pub overflow_sub-result : goal.overflow_sub-result
overflow_sub-result c = omega (arith, close_bounds _ _ _ c.requires _ c.in-Some.ensures)

pub overflow_add-result : goal.overflow_add-result
overflow_add-result c = omega (arith, close_bounds _ _ _ c.requires _ c.in-Some.ensures)

pub returns-in-Ok : goal.returns-in-Ok
returns-in-Ok c = sym (way_escaped _ _ _ c.requires _ c.in-Some.ensures _ c.in-Ok.ensures)

pub returns-in-Err-Cut : goal.returns-in-Err-Cut
returns-in-Err-Cut c = grind (arith, way_cut _ _ _ c.requires _ c.in-Some.ensures)

pub returns-in-Err-Bad : goal.returns-in-Err-Bad
returns-in-Err-Bad c = grind (arith, way_bad _ _ _ c.requires _ c.in-Some.ensures)
