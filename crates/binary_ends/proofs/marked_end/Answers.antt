-- `marked_end` meets its contract: each arm is a row of the table of markers, without its value.
use mathlib.Core.Path.{◌∙◌, sym, refl}
use native.Mathlib.Omega.{arith}
use Rattle.binary.specs.Binary.{marked}
use Rattle.binary_ends.proofs.Ends.{string_is, int64_is, double_is, uint64_is, scalar_at, no_scalar}
use Rattle.binary_ends.proofs.marked_end.Goals as goal

pub returns-in-1 : goal.returns-in-1
returns-in-1 c =
    let x = c.args in
    c.string_at_end.ensures ∙ string_is x.input.now x.at
    ∙ scalar_at x.input.now x.at _ c.requires.0 c.in-1.is

pub returns-in-2 : goal.returns-in-2
returns-in-2 c =
    let x = c.args in
    c.uvarint_end.ensures ∙ int64_is x.input.now x.at
    ∙ scalar_at x.input.now x.at _ c.requires.0 c.in-2.is

pub returns-in-3 : goal.returns-in-3
returns-in-3 c =
    let x = c.args in
    c.double_end.ensures ∙ double_is x.input.now x.at
    ∙ scalar_at x.input.now x.at _ c.requires.0 c.in-3.is

pub returns-in-4 : goal.returns-in-4
unfolding marked
returns-in-4 c =
    let x = c.args in
    scalar_at x.input.now x.at 4 c.requires.0 c.in-4.is

pub returns-in-5 : goal.returns-in-5
unfolding marked
returns-in-5 c =
    let x = c.args in
    scalar_at x.input.now x.at 5 c.requires.0 c.in-5.is

pub returns-in-6 : goal.returns-in-6
returns-in-6 c =
    let x = c.args in
    c.uvarint_end-in-6.ensures ∙ uint64_is x.input.now x.at
    ∙ scalar_at x.input.now x.at _ c.requires.0 c.in-6.is

pub returns-in_default : goal.returns-in_default
returns-in_default c =
    let x = c.args in
    sym (no_scalar x.input.now x.at _ (λ e. omega arith) (λ e. omega arith) (λ e. omega arith) (λ e. omega arith) (λ e. omega arith) (λ e. omega arith) (λ e. omega (arith, c.requires.1)))
    ∙ scalar_at x.input.now x.at _ c.requires.0 refl
