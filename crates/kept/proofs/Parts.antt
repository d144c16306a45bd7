-- The parts that one way through the code takes together, by what the way is told of them. Assumes nothing.
use mathlib.Core.Path.{◌≡◌}
use mathlib.Core.Logic.{◌⊎◌}
use mathlib.Core.List.{List, [], ◌∷◌}
use Rattle.kept.specs.declared.Due.{Due}

-- a part is one of these: the first, or one of the others
abbrev pub Among : Due → List Due → Due → Type 0
Among x [] d = d ≡ x
Among x (y ∷ ys) d = (d ≡ x) ⊎ Among y ys d
