-- `word_end` meets its contract: the case of the word fixes its end. Assumes nothing.
use mathlib.Core.Path.{ap}
use native.Mathlib.Omega.{arith}
use Rattle.token.specs.Ends.{end_of}
use Rattle.words.proofs.Tokens.{by_case, end_out}
use Rattle.words.proofs.word_end.Goals as goal

pub returns-then-input-at : goal.returns-then-input-at
returns-then-input-at c = end_out c.args.input.now c.args.at (omega arith)

pub returns-in-Some : goal.returns-in-Some
returns-in-Some c = rw c.width.ensures (ap end_of (by_case _ _ (omega arith) _ c.in-Some.ensures.word))

pub returns-in-None : goal.returns-in-None
returns-in-None c = ap end_of (by_case _ _ (omega arith) _ c.in-None.ensures.word)
