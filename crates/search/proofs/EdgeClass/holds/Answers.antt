-- `holds` meets its contract.
use mathlib.Core.Path.{ap}
use mathlib.Core.Bool.{Bool, not, ◌&&◌, ◌||◌}
use lib.Dec.{leb}
use Rattle.search.specs.First.{is_edge}
use Rattle.search.proofs.EdgeClass.holds.Goals as goal

pub returns : goal.returns
unfolding is_edge
returns c = let b = c.args.b in ap (λ (t : Bool). not (((leb 65 b && leb b 90) || (leb 97 b && leb b 122)) || t)) c.is_joint.ensures
