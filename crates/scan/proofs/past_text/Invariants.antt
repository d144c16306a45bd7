-- `past_text` meets its contract: one pair after another, with what is ignored between.
use Prim.Native.Nat.{◌-◌}
use lib.ListN.{length}
use Rattle.refusal.specs.declared.Format.TheVariants.{Text}
use Rattle.scan.specs.Post.{Along}
use Rattle.scan.proofs.past_text.Given as goal

abbrev pub invariant-loop-key : goal.invariant-loop-key
invariant-loop-key l = Along Text l.input l.from l.at

abbrev pub decreases-loop-key : goal.decreases-loop-key
decreases-loop-key l = length l.input - l.at
