-- `why_of` meets its contract: each arm knows which number it has.
use mathlib.Core.Path.{sym, ap, refl}
use borrow.Author.Tests.{ne_eqb}
use Rattle.refusal.specs.Meaning.{why_of}
use Rattle.std.proofs.Common.{arith}
use Rattle.refusal.proofs.why_of.Goals as goal

pub returns-in-1 : goal.returns-in-1
unfolding why_of
returns-in-1 c = ap why_of (sym c.in-1.is)

pub returns-in-2 : goal.returns-in-2
unfolding why_of
returns-in-2 c = ap why_of (sym c.in-2.is)

pub returns-in-3 : goal.returns-in-3
unfolding why_of
returns-in-3 c = ap why_of (sym c.in-3.is)

pub returns-in-4 : goal.returns-in-4
unfolding why_of
returns-in-4 c = ap why_of (sym c.in-4.is)

pub returns-in-5 : goal.returns-in-5
unfolding why_of
returns-in-5 c = ap why_of (sym c.in-5.is)

pub returns-in-6 : goal.returns-in-6
unfolding why_of
returns-in-6 c = ap why_of (sym c.in-6.is)

pub returns-in-7 : goal.returns-in-7
unfolding why_of
returns-in-7 c = ap why_of (sym c.in-7.is)

pub returns-in-8 : goal.returns-in-8
unfolding why_of
returns-in-8 c = ap why_of (sym c.in-8.is)

pub returns-in-9 : goal.returns-in-9
unfolding why_of
returns-in-9 c = ap why_of (sym c.in-9.is)

pub returns-in-10 : goal.returns-in-10
unfolding why_of
returns-in-10 c = ap why_of (sym c.in-10.is)

pub returns-in-11 : goal.returns-in-11
unfolding why_of
returns-in-11 c = ap why_of (sym c.in-11.is)

pub returns-in-12 : goal.returns-in-12
unfolding why_of
returns-in-12 c = ap why_of (sym c.in-12.is)

pub returns-in_default : goal.returns-in_default
unfolding why_of
returns-in_default c =
    let n = c.args.number in
    rw (ne_eqb n 1 (λ e. omega arith), ne_eqb n 2 (λ e. omega arith), ne_eqb n 3 (λ e. omega arith), ne_eqb n 4 (λ e. omega arith), ne_eqb n 5 (λ e. omega arith), ne_eqb n 6 (λ e. omega arith), ne_eqb n 7 (λ e. omega arith), ne_eqb n 8 (λ e. omega arith), ne_eqb n 9 (λ e. omega arith), ne_eqb n 10 (λ e. omega arith), ne_eqb n 11 (λ e. omega arith), ne_eqb n 12 (λ e. omega arith)) refl
