-- `word_token` meets its contract: the case of the word fixes the answer. Assumes nothing.
use native.Mathlib.Omega.{arith}
use Rattle.words.proofs.Tokens.{beyond, ended, by_case}
use Rattle.words.proofs.word_token.Goals as goal

pub returns-then-input-at : goal.returns-then-input-at
returns-then-input-at c = beyond _ _ (omega arith)

pub returns-then-input-at-2 : goal.returns-then-input-at-2
returns-then-input-at-2 c = ended _ _ c.if-input-at-2.true

pub returns-in-Some : goal.returns-in-Some
returns-in-Some c = rw (c.token.ensures, c.width.ensures) (by_case _ _ (omega arith) _ c.in-Some.ensures.word)

pub returns-in-None : goal.returns-in-None
returns-in-None c = rw c.at.ensures (by_case _ _ (omega arith) _ c.in-None.ensures.word)
