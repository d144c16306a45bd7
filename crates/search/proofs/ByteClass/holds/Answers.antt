-- `holds` meets its contract.
use mathlib.Core.Path.{refl}
use Rattle.marks.specs.Classes.{is_byte}
use Rattle.search.proofs.ByteClass.holds.Goals as goal

pub returns : goal.returns
unfolding is_byte
returns c = refl
