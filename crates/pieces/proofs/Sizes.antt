-- How many input bytes an escape takes.
use mathlib.Core.Path.{◌≡◌}
use mathlib.Core.List.{List}
use Prim.Native.Nat.{ℕ, ◌≤◌}
use native.Mathlib.Omega.{arith}
use Rattle.pieces.specs.Pieces.{byte, hex_of, third_of, octal_of, escape_of}

-- from two to four
pub escape_size : (l : List ℕ) (v k : ℕ) → byte v k ≡ escape_of l → (2 ≤ k) × (k ≤ 4)
unfolding escape_of hex_of octal_of third_of
escape_size l v k e = grind arith
