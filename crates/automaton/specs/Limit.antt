-- How deep blocks may stand in one another.
use Rattle.std.specs.Prelude.{ℕ}

-- at most 128 blocks are open at once; lists, maps and attribute blocks all count
abbrev pub most_open : ℕ
most_open = 128
