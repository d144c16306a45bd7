-- `skip_ignored` meets its contract: in each of its three loops the place that it goes to is the one from the start.
use mathlib.Core.Path.{sym, ap, ◌∙◌}
use native.Mathlib.Nat.{le_refl}
use native.Mathlib.Omega.{arith}
use Rattle.marks.specs.Classes.{is_byte}
use Rattle.search.proofs.Laws.{found_on}
use Rattle.blanks.proofs.Ways.{blank_space, blank_past, nearer, onward, line_from, block_from, blanks_more, blanks_end, blanks_stop, blanks_lone, open_line, open_block, open_none, line_end, line_more, line_out, block_end, block_star, block_last, block_more, block_out, line_jump, block_jump}
use Rattle.blanks.proofs.skip_ignored.Goals as goal

pub blanks-preserved-then-b-eq32 : goal.blanks-preserved-then-b-eq32
blanks-preserved-then-b-eq32 c = sym (blanks_more _ _ c.blanks-test.true (blank_space _ c.if-b-eq32.true)) ∙ c.blanks.invariant

pub blanks-preserved-then-is_blank : goal.blanks-preserved-then-is_blank
blanks-preserved-then-is_blank c = sym (blanks_more _ _ c.blanks-test.true (sym c.is_blank.ensures ∙ c.if-is_blank.true)) ∙ c.blanks.invariant

pub line-init : goal.line-init
line-init c = (le_refl _, sym (open_line _ _ c.if-input-n.false (blank_past _ c.if-b-eq32.false c.if-b-lt32.false) c.if-b-ne47.false c.if-c-eq47.true) ∙ c.blanks.invariant)

pub blanks-preserved-then-d-eq10 : goal.blanks-preserved-then-d-eq10
blanks-preserved-then-d-eq10 c = sym (line_end _ _ c.if-input-p.false c.if-d-eq10.true) ∙ c.line.invariant.1

pub line-smaller : goal.line-smaller
line-smaller c = nearer (found_on (is_byte 10) _ _ _ c.find_byte-p.ensures) c.if-input-p.false

pub line-preserved : goal.line-preserved
line-preserved c = (onward c.line.invariant.0 (found_on (is_byte 10) _ _ _ c.find_byte-p.ensures), ap (line_from _) c.find_byte-p.ensures ∙ sym (line_jump _ _) ∙ sym (line_more _ _ c.if-input-p.false c.if-d-eq10.false) ∙ c.line.invariant.1)

pub block-init : goal.block-init
block-init c = (le_refl _, sym (open_block _ _ c.if-input-n.false (blank_past _ c.if-b-eq32.false c.if-b-lt32.false) c.if-b-ne47.false c.if-c-ne42.false) ∙ c.blanks.invariant)

pub blanks-preserved : goal.blanks-preserved
blanks-preserved c = sym (block_end _ _ c.if-p-input.true c.if-d-eq42.true c.if-f-eq47.true) ∙ c.block.invariant.1

pub block-preserved-else-f-eq47 : goal.block-preserved-else-f-eq47
block-preserved-else-f-eq47 c = (onward c.block.invariant.0 (le_refl _), sym (block_star _ _ c.if-p-input.true c.if-f-eq47.false) ∙ c.block.invariant.1)

pub block-preserved-else-p-input : goal.block-preserved-else-p-input
block-preserved-else-p-input c = (onward c.block.invariant.0 (le_refl _), sym (block_last _ _ c.if-input-p-2.false c.if-p-input.false) ∙ c.block.invariant.1)

pub block-smaller : goal.block-smaller
block-smaller c = nearer (found_on (is_byte 42) _ _ _ c.find_byte-p-else-d-eq42.ensures) c.if-input-p-2.false

pub block-preserved : goal.block-preserved
block-preserved c = (onward c.block.invariant.0 (found_on (is_byte 42) _ _ _ c.find_byte-p-else-d-eq42.ensures), ap (block_from _) c.find_byte-p-else-d-eq42.ensures ∙ sym (block_jump _ _) ∙ sym (block_more _ _ c.if-input-p-2.false c.if-d-eq42.false) ∙ c.block.invariant.1)

pub returns-after-blanks : goal.returns-after-blanks
returns-after-blanks c = sym (blanks_end _ _ c.blanks-test.false) ∙ c.blanks.invariant

pub returns-else-is_blank : goal.returns-else-is_blank
returns-else-is_blank c = sym (blanks_stop _ _ c.blanks-test.true (sym c.is_blank.ensures ∙ c.if-is_blank.false) (λ e. omega arith)) ∙ c.blanks.invariant

pub returns-then-b-ne47 : goal.returns-then-b-ne47
returns-then-b-ne47 c = sym (blanks_stop _ _ c.blanks-test.true (blank_past _ c.if-b-eq32.false c.if-b-lt32.false) c.if-b-ne47.true) ∙ c.blanks.invariant

pub returns-then-input-n : goal.returns-then-input-n
returns-then-input-n c = sym (blanks_lone _ _ c.blanks-test.true (blank_past _ c.if-b-eq32.false c.if-b-lt32.false) c.if-input-n.true) ∙ c.blanks.invariant

pub returns-then-input-p : goal.returns-then-input-p
returns-then-input-p c = sym (line_out _ _ c.if-input-p.true) ∙ c.line.invariant.1

pub returns-then-c-ne42 : goal.returns-then-c-ne42
returns-then-c-ne42 c = sym (open_none _ _ c.if-input-n.false (blank_past _ c.if-b-eq32.false c.if-b-lt32.false) c.if-b-ne47.false c.if-c-eq47.false c.if-c-ne42.true) ∙ c.blanks.invariant

pub returns-then-input-p-2 : goal.returns-then-input-p-2
returns-then-input-p-2 c = sym (block_out _ _ c.if-input-p-2.true) ∙ c.block.invariant.1
