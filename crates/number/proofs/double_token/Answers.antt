-- `double_token` meets its contract. Assumes nothing.
use mathlib.Core.Path.{sym}
use Rattle.number.proofs.Tokens.{double_yes, double_no}
use Rattle.number.proofs.double_token.Goals as goal

pub returns-then-not-double_ok : goal.returns-then-not-double_ok
returns-then-not-double_ok c = rw c.at.ensures (double_no _ _ _ (sym c.if-not-double_ok.ensures))

pub returns : goal.returns
returns c = double_yes _ _ _ (sym c.if-not-double_ok.ensures)
