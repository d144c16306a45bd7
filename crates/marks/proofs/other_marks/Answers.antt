-- `other_marks` meets its contract: the masks mark each byte by itself.
use Rattle.marks.proofs.Masks.{others, other_word, othered}
use native.Mathlib.Omega.{arith}
use mathlib.Core.Path.{ap, ◌∙◌}
use Rattle.marks.proofs.other_marks.Goals as goal

pub returns : goal.returns
returns c = other_word c.word_at-w.result (omega arith) ∙ ap (others 8) c.word_at-w.ensures ∙ othered _ (λ i. omega (arith, c.type_inv.s i)) 8 _
