-- The string at a place, by the token that stands there.
use mathlib.Core.Path.{◌≡◌, ap, ◌∙◌}
use mathlib.Core.List.{List}
use Prim.Native.Nat.{ℕ, ◌+◌}
use native.Mathlib.Omega.{arith}
use lib.ListN.{drop, take}
use Rattle.std.specs.Prelude.{Some, None}
use Rattle.refusal.specs.Paper.{gives, got, spot}
use Rattle.token.specs.Meaning.{extent_of}
use Rattle.token.specs.declared.Token.{Token}
use Rattle.token.specs.declared.Extent.TheVariants.{Plain, Quoted}
use Rattle.pieces.specs.Pieces.{closed, walk}
use Rattle.quoted.specs.Quoted.{quoted_at, quoted_bytes, quoted_string_at}
use Rattle.quoted.proofs.Laws.{quoted_gives, quoted_ended, string_bytes}
use Rattle.unescape.specs.Overlay.{bytes_from}

module _ (s : List ℕ) (at : ℕ) (t : Token) (first next : ℕ) (e : quoted_at s at ≡ gives (spot t first next)) where
  -- the token of a quoted string says where its bytes stand
  pub is_string : extent_of t ≡ None → ⊥
  is_string x = grind (arith, quoted_gives s at t first next e)

  starts : (start len : ℕ) → extent_of t ≡ Some (Quoted start len) → at + 1 ≡ start
  starts start len x = grind (arith, quoted_gives s at t first next e)

  string_is : quoted_string_at s at ≡ gives (got (quoted_bytes s at) next)
  unfolding quoted_string_at
  string_is = rw e

  pub plain_string : (start len : ℕ) → extent_of t ≡ Some (Plain start len) → quoted_string_at s at ≡ gives (got (take len (drop start s)) next)
  plain_string start len x = string_is ∙ ap (λ (l : List ℕ). gives (got l next)) (string_bytes s at t first next start len e x)

  pub whole_string : quoted_string_at s at ≡ bytes_from s (at + 1) next
  unfolding quoted_bytes
  whole_string = string_is

  pub whole_pieces : (walk 0 (drop (at + 1) s)).end ≡ closed
  whole_pieces = (quoted_ended s at t first next e).whole

  -- the same from where the token says that its bytes start
  pub string_from : (start len : ℕ) → extent_of t ≡ Some (Quoted start len) → quoted_string_at s at ≡ bytes_from s start next
  string_from start len x = rw (← starts start len x) whole_string

  pub pieces_from : (start len : ℕ) → extent_of t ≡ Some (Quoted start len) → (walk 0 (drop start s)).end ≡ closed
  pieces_from start len x = rw (← starts start len x) whole_pieces
