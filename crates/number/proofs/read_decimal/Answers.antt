-- `read_decimal` meets its contract: the digits from the place reached, behind those that wrote the value so far, say what all of them say.
-- Assumes nothing.
use mathlib.Core.Path.{sym, ◌∙◌}
use native.Mathlib.Omega.{arith}
use Rattle.std.proofs.lemmas.Bool.Decides.{nat_tests}
use Rattle.number.proofs.Classes.{digit_is}
use Rattle.number.proofs.Values.{decimal_none, decimal_start, decimal_out, decimal_bad, decimal_more, decimal_over}
use Rattle.number.proofs.read_decimal.Goals as goal

pub returns-then-is_empty : goal.returns-then-is_empty
returns-then-is_empty c = decimal_none c.args.digits.now _ 0 (grind (arith, nat_tests))

pub loop-b-init : goal.loop-b-init
loop-b-init c = record { fits = omega arith; agrees = decimal_start c.args.digits.now _ 0 (grind (arith, nat_tests)) }

pub returns-then-not-is_ascii_digit : goal.returns-then-not-is_ascii_digit
returns-then-not-is_ascii_digit c =
    decimal_bad c.args.digits.now _ _ _ (omega arith) (sym (c.if-not-is_ascii_digit.ensures.value ∙ digit_is _)) ∙ c.loop-b.invariant.agrees

pub returns-in_err-checked_mul : goal.returns-in_err-checked_mul
returns-in_err-checked_mul c =
    c.from_residual.ensures
    ∙ decimal_over c.args.digits.now _ _ _ (omega arith) (sym (c.if-not-is_ascii_digit.ensures.value ∙ digit_is _)) (omega (arith, c.in_err-checked_mul.ensures))
    ∙ c.loop-b.invariant.agrees

pub returns-in_err-value : goal.returns-in_err-value
returns-in_err-value c =
    c.from_residual-in_err-value.ensures
    ∙ decimal_over c.args.digits.now _ _ _ (omega arith) (sym (c.if-not-is_ascii_digit.ensures.value ∙ digit_is _)) (omega (arith, c.in_err-value.ensures, c.in_ok-checked_mul.ensures.1, c.from.ensures))
    ∙ c.loop-b.invariant.agrees

pub loop-b-preserved : goal.loop-b-preserved
loop-b-preserved c =
    let digit = sym (c.if-not-is_ascii_digit.ensures.value ∙ digit_is _) in
    record {
      fits = omega (arith, c.in_ok-value.ensures);
      agrees = rw (c.in_ok-value.ensures.1, c.in_ok-checked_mul.ensures.1, c.from.ensures) (decimal_more c.args.digits.now _ _ _ (omega arith) digit ∙ c.loop-b.invariant.agrees);
    }

pub returns : goal.returns
returns c = decimal_out c.args.digits.now _ _ _ (omega arith) (omega (arith, c.loop-b.invariant.fits)) ∙ c.loop-b.invariant.agrees
