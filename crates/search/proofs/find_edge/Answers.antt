-- `find_edge` meets its contract: letters are passed, and the first other byte is an edge or passed too.
use Rattle.search.proofs.Marks.{word_none, word_some, word_lt}
use Rattle.search.proofs.Laws.{edge_letters, edge_here, edge_more}
use Rattle.marks.specs.Classes.{no_letter}
use borrow.Author.Rules.{rules}
use native.Mathlib.Omega.{arith}
use mathlib.Core.Path.{sym, ◌∙◌}
use Rattle.search.proofs.find_edge.Goals as goal

pub loop-p-preserved-then-m-eq0 : goal.loop-p-preserved-then-m-eq0
loop-p-preserved-then-m-eq0 c = (search rules, edge_letters _ _ _ (word_none no_letter _ _ _ (omega arith) c.letter_marks-m.ensures c.if-m-eq0.true) ∙ c.loop-p.invariant.1)

pub returns-then-not-is_joint : goal.returns-then-not-is_joint
returns-then-not-is_joint c =
    edge_here _ _ _ (word_some no_letter _ _ _ (omega arith) c.letter_marks-m.ensures c.if-m-eq0.false _ c.low_mark.ensures.0)
    (omega (arith, word_lt no_letter _ _ _ (omega arith) c.letter_marks-m.ensures c.if-m-eq0.false _ c.low_mark.ensures.0))
    (sym c.is_joint.ensures ∙ c.if-not-is_joint.true)
    ∙ c.loop-p.invariant.1

pub loop-p-preserved : goal.loop-p-preserved
loop-p-preserved c = (
  search rules,
  edge_more _ _ _ (word_some no_letter _ _ _ (omega arith) c.letter_marks-m.ensures c.if-m-eq0.false _ c.low_mark.ensures.0)
      (omega (arith, word_lt no_letter _ _ _ (omega arith) c.letter_marks-m.ensures c.if-m-eq0.false _ c.low_mark.ensures.0))
      (sym c.is_joint.ensures ∙ c.if-not-is_joint.false)
      ∙ c.loop-p.invariant.1,
)
