-- `mark_of` meets its contract: each arm knows which byte it has.
use mathlib.Core.Path.{◌∙◌, sym, ap}
use borrow.Author.Tests.{ne_eqb}
use Rattle.refusal.specs.Meaning.{refusal_meaning}
use Rattle.token.specs.Marks.{mark_of, of_mark}
use Rattle.std.proofs.Common.{arith}
use Rattle.token.proofs.mark_of.Goals as goal

pub returns-in-35 : goal.returns-in-35
unfolding mark_of
returns-in-35 c = c.one_byte.ensures ∙ ap (λ b. of_mark c.args.at (mark_of b)) (sym c.in-35.is)

pub returns-in-59 : goal.returns-in-59
unfolding mark_of
returns-in-59 c = c.one_byte-in-59.ensures ∙ ap (λ b. of_mark c.args.at (mark_of b)) (sym c.in-59.is)

pub returns-in-60 : goal.returns-in-60
unfolding mark_of
returns-in-60 c = c.one_byte-in-60.ensures ∙ ap (λ b. of_mark c.args.at (mark_of b)) (sym c.in-60.is)

pub returns-in-61 : goal.returns-in-61
unfolding mark_of
returns-in-61 c = c.one_byte-in-61.ensures ∙ ap (λ b. of_mark c.args.at (mark_of b)) (sym c.in-61.is)

pub returns-in-62 : goal.returns-in-62
unfolding mark_of
returns-in-62 c = c.one_byte-in-62.ensures ∙ ap (λ b. of_mark c.args.at (mark_of b)) (sym c.in-62.is)

pub returns-in-91 : goal.returns-in-91
unfolding mark_of
returns-in-91 c = c.one_byte-in-91.ensures ∙ ap (λ b. of_mark c.args.at (mark_of b)) (sym c.in-91.is)

pub returns-in-93 : goal.returns-in-93
unfolding mark_of
returns-in-93 c = c.one_byte-in-93.ensures ∙ ap (λ b. of_mark c.args.at (mark_of b)) (sym c.in-93.is)

pub returns-in-123 : goal.returns-in-123
unfolding mark_of
returns-in-123 c = c.one_byte-in-123.ensures ∙ ap (λ b. of_mark c.args.at (mark_of b)) (sym c.in-123.is)

pub returns-in-125 : goal.returns-in-125
unfolding mark_of
returns-in-125 c = c.one_byte-in-125.ensures ∙ ap (λ b. of_mark c.args.at (mark_of b)) (sym c.in-125.is)

pub returns-in_default : goal.returns-in_default
unfolding mark_of
returns-in_default c =
    let b = c.args.b in
    ap refusal_meaning c.at.ensures ∙ rw (ne_eqb b 35 (λ e. omega arith), ne_eqb b 59 (λ e. omega arith), ne_eqb b 60 (λ e. omega arith), ne_eqb b 61 (λ e. omega arith), ne_eqb b 62 (λ e. omega arith), ne_eqb b 91 (λ e. omega arith), ne_eqb b 93 (λ e. omega arith), ne_eqb b 123 (λ e. omega arith), ne_eqb b 125 (λ e. omega arith))
