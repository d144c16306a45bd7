-- `refill` meets its contract: the bytes kept stand at the front, and those taken follow.
use Rattle.std.proofs.Common.{◌∙◌, sym, arith}
use Rattle.buffer.proofs.Buffer.{Front, front_moved, front_there, front_piece, refilled_is}
use Rattle.buffer.proofs.refill.Goals as goal
use Rattle.buffer.proofs.refill.Goals.{then-start-gt0, else-start-gt0}

pub returns-clause-written : goal.returns-clause-written
returns-clause-written c =
    let a = c.args in
    let front : Front a.start a.filled a.buf.now c.if-start-gt0.buf =
    elim c.if-start-gt0.branch [
      | then-start-gt0 w ↦ front_moved a.start a.filled a.buf.now c.if-start-gt0.buf (omega arith) (omega arith) cc
      | else-start-gt0 w ↦ front_there a.start a.filled a.buf.now c.if-start-gt0.buf (omega arith) cc
    ] in
    rw (c.copy_from_slice.ensures.after, c.min-count.ensures) (front_piece a.start a.filled _ a.buf.now c.if-start-gt0.buf a.piece.now front)
    ∙ sym (refilled_is a.start a.filled a.piece.now a.buf.now (omega arith) (omega arith))
