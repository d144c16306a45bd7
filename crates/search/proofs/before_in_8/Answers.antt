-- `before_in_8` meets its contract: the marks of a word say where the first stands.
use Rattle.search.proofs.Marks.{word_before}
use Rattle.marks.specs.Classes.{is_byte}
use native.Mathlib.Omega.{arith}
use Rattle.search.proofs.before_in_8.Goals as goal

pub returns : goal.returns
returns c = word_before (is_byte _) _ _ _ (omega arith) c.byte_marks.ensures _ c.low_mark.ensures.0
