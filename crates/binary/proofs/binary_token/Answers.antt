-- `binary_token` meets its contract: each arm of the match is a row of the table of markers.
use mathlib.Core.Path.{◌∙◌, sym, ap}
use native.Mathlib.Omega.{arith}
use Rattle.token.proofs.Marks.{mark_inside}
use Rattle.binary.specs.Binary.{marked}
use Rattle.binary.proofs.Laws.{beyond, from_is, ended, at_marked, unmarked}
use Rattle.binary.proofs.binary_token.Goals as goal

pub returns-then-input-at : goal.returns-then-input-at
returns-then-input-at c = sym (beyond c.args.input.now c.args.at c.if-input-at.true)

pub returns-then-input-at-2 : goal.returns-then-input-at-2
returns-then-input-at-2 c =
    let x = c.args in
    sym (from_is x.input.now x.at c.if-input-at.false ∙ ended x.input.now x.at (omega arith))

pub returns-in-1 : goal.returns-in-1
unfolding marked
returns-in-1 c =
    let x = c.args in
    c.string_token.ensures ∙ sym (at_marked x.input.now x.at (omega arith) ∙ ap (marked x.input.now x.at) c.in-1.is)

pub returns-in-2 : goal.returns-in-2
unfolding marked
returns-in-2 c =
    let x = c.args in
    c.int64_token.ensures ∙ sym (at_marked x.input.now x.at (omega arith) ∙ ap (marked x.input.now x.at) c.in-2.is)

pub returns-in-3 : goal.returns-in-3
unfolding marked
returns-in-3 c =
    let x = c.args in
    c.double_token.ensures ∙ sym (at_marked x.input.now x.at (omega arith) ∙ ap (marked x.input.now x.at) c.in-3.is)

pub returns-in-4 : goal.returns-in-4
unfolding marked
returns-in-4 c =
    let x = c.args in
    sym (at_marked x.input.now x.at (omega arith) ∙ ap (marked x.input.now x.at) c.in-4.is)

pub returns-in-5 : goal.returns-in-5
unfolding marked
returns-in-5 c =
    let x = c.args in
    sym (at_marked x.input.now x.at (omega arith) ∙ ap (marked x.input.now x.at) c.in-5.is)

pub returns-in-6 : goal.returns-in-6
unfolding marked
returns-in-6 c =
    let x = c.args in
    c.uint64_token.ensures ∙ sym (at_marked x.input.now x.at (omega arith) ∙ ap (marked x.input.now x.at) c.in-6.is)

pub returns-in_default : goal.returns-in_default
returns-in_default c =
    let x = c.args in
    c.mark_at.ensures ∙ mark_inside x.input.now x.at (omega arith)
    ∙ sym
    (at_marked x.input.now x.at (omega arith)
    ∙ unmarked x.input.now x.at _ (λ e. omega arith) (λ e. omega arith) (λ e. omega arith) (λ e. omega arith) (λ e. omega arith) (λ e. omega arith))
