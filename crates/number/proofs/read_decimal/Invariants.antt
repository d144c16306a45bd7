-- `read_decimal` meets its contract: the digits from the place reached, behind those that wrote the value so far, say what all of them say.
-- Assumes nothing.
use Rattle.std.proofs.Common.{◌≡◌, drop, ◌-◌, ◌^◌, ◌<◌}
use Rattle.number.specs.Places.{up_to}
use Rattle.number.proofs.Values.{onward_to}
use Rattle.number.proofs.read_decimal.Given as goal

abbrev pub invariant-loop-b : goal.invariant-loop-b
invariant-loop-b l = record {
  fits : l.value < 2 ^ 64;
  agrees : onward_to (2 ^ 64 - 1) l.value (drop l.b-index l.digits) ≡ up_to (2 ^ 64 - 1) l.digits;
}
