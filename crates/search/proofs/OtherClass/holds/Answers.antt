-- `holds` meets its contract.
use mathlib.Core.Path.{refl}
use Rattle.marks.specs.Classes.{is_other}
use Rattle.search.proofs.OtherClass.holds.Goals as goal

pub returns : goal.returns
unfolding is_other
returns c = refl
