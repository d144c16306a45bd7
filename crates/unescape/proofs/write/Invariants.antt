-- `write` meets its contract: n bytes are written, and what the pieces from each place on give, laid over the rest of the output,
-- comes to what those from the start give, laid over all of it.
use mathlib.Core.Path.{◌≡◌}
use lib.ListN.{drop}
use Rattle.pieces.specs.Pieces.{walk}
use Rattle.unescape.specs.Overlay.{overlay}
use Rattle.unescape.proofs.Writes.{written}
use Rattle.unescape.proofs.write.Given as goal

abbrev pub invariant-loop-slot : goal.invariant-loop-slot
invariant-loop-slot l = written l.slot-index l.out (walk 0 (drop l.p l.input)).bytes ≡ overlay (walk 0 (drop l.from l.input)).bytes l.initial.out
