-- `int_token` meets its contract. Assumes nothing.
use mir.Syntax.{w64}
use mir.Val.{SFits}
use Rattle.std.proofs.Common.{rules}
use Rattle.std.proofs.lemmas.Int.{to_z-of_z}
use Rattle.number.proofs.Tokens.{int_some, int_none}
use Rattle.number.proofs.int_token.Goals as goal

pub returns-in_default : goal.returns-in_default
returns-in_default c = rw c.at.ensures (int_none _ _ _ c.in_default.ensures)

pub returns : goal.returns
returns c =
    let f : SFits w64 c.in-Some.value = search rules in
    rw (to_z-of_z w64 c.in-Some.value f) (int_some _ _ _ _ c.in-Some.ensures)
