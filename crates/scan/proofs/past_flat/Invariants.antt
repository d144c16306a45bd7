-- `past_flat` meets its contract: one pair after another.
use Prim.Native.Nat.{◌-◌}
use lib.ListN.{length}
use Rattle.refusal.specs.declared.Format.TheVariants.{Binary}
use Rattle.scan.specs.Post.{Along}
use Rattle.scan.proofs.past_flat.Given as goal

abbrev pub invariant-loop-key : goal.invariant-loop-key
invariant-loop-key l = Along Binary l.input l.from l.at

abbrev pub decreases-loop-key : goal.decreases-loop-key
decreases-loop-key l = length l.input - l.at
