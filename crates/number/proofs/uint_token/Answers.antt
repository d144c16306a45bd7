-- `uint_token` meets its contract. Assumes nothing.
use Rattle.number.proofs.Tokens.{uint_some, uint_none}
use Rattle.number.proofs.uint_token.Goals as goal

pub returns-in_default : goal.returns-in_default
returns-in_default c = rw c.at.ensures (uint_none _ _ _ c.in_default.ensures)

pub returns : goal.returns
returns c = uint_some _ _ _ _ c.in-Some.ensures
