use Rattle.std.proofs.Common.{◌∙◌, w64}
use mir.ValLaws.{to_z-of_z}
use Rattle.zigzag.specs.Zigzag.{twos}
use Rattle.zigzag.proofs.to_i64.Goals as goal

pub returns : goal.returns
unfolding twos
returns c = to_z-of_z w64 _ (record { sfits = c.cast_signed.type_inv }) ∙ c.cast_signed.ensures
