-- The marks, the same bytes in both formats: `# < > [ ] { } = ;`.
use Rattle.std.specs.Prelude.{ℕ, ◌+◌, List, [], ◌∷◌, eqb, ltb, length, get_or, Option, Some, None}
use Rattle.refusal.specs.Numbers.{bad_byte, beyond_slice}
use Rattle.refusal.specs.Paper.{Paper, gives, more, refused, Spot, spot, pick}
use Rattle.token.specs.declared.Token.{Token}
use Rattle.token.specs.declared.Token.TheVariants.{BeginAttributes, EndAttributes, BeginList, EndList, BeginMap, EndMap, Entity, KeyValueSeparator, ItemSeparator}

-- the token that a byte is by itself
unfoldable pub mark_of : ℕ → Option Token
mark_of b =
    pick (eqb b 0x23) (Some Entity)
    (pick (eqb b 0x3B) (Some ItemSeparator)
    (pick (eqb b 0x3C) (Some BeginAttributes)
    (pick (eqb b 0x3D) (Some KeyValueSeparator)
    (pick (eqb b 0x3E) (Some EndAttributes)
    (pick (eqb b 0x5B) (Some BeginList)
    (pick (eqb b 0x5D) (Some EndList)
    (pick (eqb b 0x7B) (Some BeginMap)
    (pick (eqb b 0x7D) (Some EndMap)
    None))))))))

-- a mark that stands at a place is a token of one byte; any other byte starts no token
abbrev pub of_mark : ℕ → Option Token → Paper (Spot Token)
of_mark at (Some t) = gives (spot t at (at + 1))
of_mark at None = refused bad_byte (at ∷ [])

-- the token at a place where marks are the only tokens: 26 beyond the slice, and at the end of the bytes more are needed
unfoldable pub mark_at : List ℕ → ℕ → Paper (Spot Token)
mark_at s at = pick (ltb (length s) at) (refused beyond_slice []) (pick (ltb at (length s)) (of_mark at (mark_of (get_or s at 0))) more)
