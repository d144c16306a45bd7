-- `by_words` meets its contract: a word without a mark is passed, and the lowest mark is the place found.
use Rattle.search.proofs.Marks.{word_none, word_some}
use borrow.Author.Rules.{rules}
use native.Mathlib.Omega.{arith}
use mathlib.Core.Path.{◌∙◌}
use Rattle.search.proofs.by_words.Goals as goal

pub returns-then-m-ne0 : goal.returns-then-m-ne0
returns-then-m-ne0 g c = word_some (g.C.Class.is c.args.class) _ _ _ (omega arith) c.marks-m.ensures (λ z. omega arith) _ c.low_mark.ensures.0 ∙ c.loop-p.invariant.1

pub loop-p-preserved : goal.loop-p-preserved
loop-p-preserved g c = (search rules, word_none (g.C.Class.is c.args.class) _ _ _ (omega arith) c.marks-m.ensures (omega arith) ∙ c.loop-p.invariant.1)
