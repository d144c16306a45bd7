use Rattle.std.proofs.Common.{◌+◌, ◌-◌, ◌%◌, ◌^◌, ◌∙◌, arith, w64}
use mir.ValLaws.{to_z-of_z}
use Rattle.zigzag.proofs.Laws.{unzigzag_is}
use Rattle.zigzag.proofs.unzigzag.Goals as goal

pub returns : goal.returns
returns c =
    to_z-of_z w64 _ (record { sfits = c.to_i64.type_inv }) ∙ c.to_i64.ensures
    ∙ unzigzag_is c.args.n ((0 + (2 ^ 64 - c.args.n % 2)) % 2 ^ 64) (omega arith) (omega arith) (omega arith)
