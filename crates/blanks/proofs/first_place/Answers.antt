-- `first_place` meets its contract: from each blank that it passes, the place that is not ignored is the same.
use mathlib.Core.Path.{sym, ◌∙◌}
use native.Mathlib.Omega.{arith}
use Rattle.blanks.proofs.Ways.{blank_space, blank_above, blanks_more, blanks_end, blanks_stop}
use Rattle.blanks.proofs.first_place.Goals as goal

pub returns-then-a-gt47 : goal.returns-then-a-gt47
returns-then-a-gt47 c = sym (blanks_stop _ _ (omega arith) (blank_above _ (omega arith)) (λ e. omega arith)) ∙ c.loop-p.invariant

pub loop-p-preserved-then-a-eq32 : goal.loop-p-preserved-then-a-eq32
loop-p-preserved-then-a-eq32 c = sym (blanks_more _ _ (omega arith) (blank_space _ c.if-a-eq32.true)) ∙ c.loop-p.invariant

pub returns-then-a-ne47 : goal.returns-then-a-ne47
returns-then-a-ne47 c = sym (blanks_stop _ _ (omega arith) (blank_above _ (omega arith)) c.if-a-ne47.true) ∙ c.loop-p.invariant

pub returns-then-not-is_blank : goal.returns-then-not-is_blank
returns-then-not-is_blank c = sym (blanks_stop _ _ (omega arith) (sym c.is_blank.ensures ∙ c.if-not-is_blank.true) (λ e. omega arith)) ∙ c.loop-p.invariant

pub loop-p-preserved : goal.loop-p-preserved
loop-p-preserved c = sym (blanks_more _ _ (omega arith) (sym c.is_blank.ensures ∙ c.if-not-is_blank.false)) ∙ c.loop-p.invariant

pub returns : goal.returns
returns c = sym (blanks_end _ _ (omega arith)) ∙ c.loop-p.invariant
