-- The loop's invariant: the readings from here come to what the readings from the start come to, no more of them than bytes passed.
use mathlib.Core.Path.{◌≡◌}
use Prim.Native.Nat.{◌+◌, ◌-◌, ◌≤◌}
use lib.ListN.{length}
use Rattle.automaton.specs.Limit.{most_open}
use Rattle.blocks.specs.Readings.{read_on, read_from, binary}
use Rattle.blocks.proofs.pass.Given as goal

abbrev pub invariant-loop-place : goal.invariant-loop-place
invariant-loop-place l = record {
  count : l.from + l.readings ≤ l.place;
  few : l.blocks.depth ≤ most_open;
  reads : read_from l.input l.from l.initial.blocks ≡ read_on binary l.input l.place l.blocks l.readings;
}

abbrev pub decreases-loop-place : goal.decreases-loop-place
decreases-loop-place l = length l.input - l.place
