-- `is_joint` meets its contract.
use mathlib.Core.Path.{refl}
use Rattle.search.specs.First.{is_joint}
use Rattle.search.proofs.is_joint.Goals as goal

pub returns : goal.returns
unfolding is_joint
returns c = refl
