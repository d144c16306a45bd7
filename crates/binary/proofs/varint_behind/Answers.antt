-- `varint_behind` meets its contract: a place within the slice is never beyond it.
use Prim.Native.Nat.{◌+◌}
use Rattle.std.proofs.Common.{rules, arith}
use Rattle.refusal.specs.Numbers.{beyond_slice}
use Rattle.varint.proofs.Round.{never_beyond}
use Rattle.binary.proofs.varint_behind.Goals as goal

pub returns : goal.returns
returns c =
    let x = c.args in
    let never = never_beyond x.input.now (x.at + 1) beyond_slice (omega arith) in
    search rules
