-- `letter_marks` meets its contract: the masks mark each byte by itself.
use Rattle.marks.proofs.Masks.{letters, letter_word, lettered, or_63}
use lib.Dec.{lit<}
use native.Mathlib.Omega.{arith}
use mathlib.Core.Path.{ap, ◌∙◌}
use Rattle.marks.proofs.letter_marks.Goals as goal

pub overflow_add-from : goal.overflow_add-from
overflow_add-from c = omega (arith, or_63 c.word_at-w.result 2314885530818453536 (lit< tt))

pub overflow_add-over : goal.overflow_add-over
overflow_add-over c = omega (arith, or_63 c.word_at-w.result 2314885530818453536 (lit< tt))

pub returns : goal.returns
returns c = letter_word c.word_at-w.result (omega arith) ∙ ap (letters 8) c.word_at-w.ensures ∙ lettered _ (λ i. omega (arith, c.type_inv.s i)) 8 _
