-- `measure` meets its contract: n bytes and what the pieces from each place on give come to what those from the start give.
use native.Mathlib.Omega.{arith}
use Rattle.pieces.proofs.Sizes.{escape_size}
use Rattle.pieces.proofs.Walks.{measured}
use Rattle.pieces.proofs.measure.Goals as goal
use Rattle.pieces.proofs.measure.Goals.{in-92+in_ok-p-in-92, in_default-b}

pub overflow_add-p-in-92 : goal.overflow_add-p-in-92
overflow_add-p-in-92 c = grind (arith, escape_size _ _ _ c.in_ok-p-in-92.ensures)

pub loop-b-smaller : goal.loop-b-smaller
loop-b-smaller c =
    elim c.match-b.branch [
      | in-92+in_ok-p-in-92 w ↦ grind (arith, escape_size _ _ _ w.in_ok-p-in-92.ensures)
      | in_default-b w ↦ grind arith
    ]

pub loop-b-preserved : goal.loop-b-preserved
loop-b-preserved c =
    elim c.match-b.branch [
      | in-92+in_ok-p-in-92 w ↦ rw w.p-is (grind (arith, measured, escape_size _ _ _ w.in_ok-p-in-92.ensures))
      | in_default-b w ↦ rw w.p-is (grind (arith, measured))
    ]
