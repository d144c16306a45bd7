-- The string that stands at a place, where it has been found.
use Rattle.std.specs.Prelude.{ℕ, List}
use Rattle.refusal.specs.Paper.{Paper, gives, Got, got}

-- its bytes, and the place after its token
abbrev pub part_of : List ℕ → ℕ → Paper (Got (List ℕ))
part_of bytes next = gives (got bytes next)
