-- `byte_in_32` meets its contract: while no byte is marked, the place found is the same.
use Rattle.marks.specs.Classes.{is_byte}
use Rattle.search.specs.First.{first_from}
use Prim.Native.Nat.{◌+◌, ◌≤◌}
use mathlib.Core.Path.{◌≡◌}
use Rattle.search.proofs.byte_in_32.Given as goal

abbrev pub invariant-loop-i : goal.invariant-loop-i
invariant-loop-i l = (l.i ≤ 32) × (l.found ≡ 0 → first_from (is_byte l.b) l.s (l.p + l.i) ≡ first_from (is_byte l.b) l.s l.p)
