use mathlib.Core.Path.{◌≡◌}
use Prim.Native.Nat.{◌+◌}
use lib.ListN.{length}
use lib.Seq.{sets}
use Rattle.varint.specs.Write.{encode}
use Rattle.varint.proofs.write_uvarint.Given as goal

abbrev pub invariant-loop-p : goal.invariant-loop-p
invariant-loop-p l =
    (length l.out ≡ length l.initial.out) × (l.p + length (encode l.rest) ≡ l.n) × (sets l.out l.p (encode l.rest) ≡ sets l.initial.out 0 (encode l.value))
