-- What the writer leaves, and the bytes that the pieces from a place on give: contracts of the private functions.
use Rattle.std.specs.Prelude.{ℕ, List, [], ◌∷◌, drop}
use Rattle.refusal.specs.Paper.{Paper, gives, Got, got}
use Rattle.pieces.specs.Pieces.{walk}

-- out with its first bytes set to those of a list, as far as there is room
unfoldable pub overlay : List ℕ → List ℕ → List ℕ
overlay [] out = out
overlay (b ∷ l) [] = []
overlay (b ∷ l) (x ∷ out) = b ∷ overlay l out

-- the bytes that the pieces from a place on give, and the place after them
abbrev pub bytes_from : List ℕ → ℕ → ℕ → Paper (Got (List ℕ))
bytes_from s from next = gives (got (walk 0 (drop from s)).bytes next)
