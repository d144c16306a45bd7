-- `uvarint_end` meets its contract: the reader's walk, without its sum.
use Rattle.varint.proofs.Read.{Passed}
use Rattle.varint.proofs.uvarint_end.Given as goal

abbrev pub invariant-loop-i : goal.invariant-loop-i
invariant-loop-i l = Passed l.input l.at l.i
