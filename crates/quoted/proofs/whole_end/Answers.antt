-- `whole_end` meets its contract: from each quote or backslash that it passes, the end is the same.
use mathlib.Core.Path.{sym, ap, ◌∙◌}
use native.Mathlib.Omega.{arith}
use Rattle.marks.specs.Classes.{is_quote}
use Rattle.search.proofs.Laws.{found_on}
use Rattle.pieces.proofs.Sizes.{escape_size}
use Rattle.quoted.proofs.Whole.{whole_broken, whole_byte, whole_jump, found_quote}
use Rattle.quoted.specs.Inside.{whole_from}
use Rattle.quoted.proofs.whole_end.Goals as goal

pub returns-in_default-escape : goal.returns-in_default-escape
returns-in_default-escape c =
    let z = c.in-Some.ensures.lookup.3 in
    whole_broken _ _ z.0 (c.loop-b.invariant.0 z.0) (λ e. c.if-b-eq34.false (z.1 0 ∙ e)) _ c.in_default-escape.ensures ∙ c.loop-b.invariant.1

pub overflow_add-p-in-Some : goal.overflow_add-p-in-Some
overflow_add-p-in-Some c = grind (arith, escape_size _ _ _ c.in-Ok.ensures)

pub loop-b-smaller : goal.loop-b-smaller
loop-b-smaller c =
    grind (arith, escape_size _ _ _ c.in-Ok.ensures, found_on is_quote _ _ _ c.find_quote-p-in-Some.ensures)

pub loop-b-preserved : goal.loop-b-preserved
loop-b-preserved c =
    let z = c.in-Some.ensures.lookup.3 in
    let q = c.find_quote-p-in-Some.ensures in
    (found_quote _ _ _ q, ap (whole_from _) q ∙ sym (whole_jump _ _) ∙ whole_byte _ _ z.0 (c.loop-b.invariant.0 z.0) (λ e. c.if-b-eq34.false (z.1 0 ∙ e)) _ c.in-Ok.ensures ∙ c.loop-b.invariant.1)
