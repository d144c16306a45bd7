-- `read_uvarint` meets its contract: the bytes passed are read, as proofs/Read.antt says, and the tenth is left to `tenth`.
use Rattle.varint.proofs.Read.{Passed, Summed}
use Rattle.varint.proofs.read_uvarint.Given as goal

abbrev pub invariant-loop-i : goal.invariant-loop-i
invariant-loop-i l = Passed l.input l.at l.i × Summed l.input l.at l.i l.value l.weight
