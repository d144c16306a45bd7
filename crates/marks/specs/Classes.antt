-- Kinds of bytes, which a word's marks tell.
use Rattle.std.specs.Prelude.{ℕ, Bool, not, ◌||◌, ◌&&◌, eqb, leb}

-- one byte
unfoldable pub is_byte : ℕ → ℕ → Bool
is_byte c b = eqb b c

-- a quote or a backslash
unfoldable pub is_quote : ℕ → Bool
is_quote b = eqb b 34 || eqb b 92

-- no `0` to `9`
unfoldable pub is_other : ℕ → Bool
is_other b = not (leb 48 b && leb b 57)

-- no letter
unfoldable pub no_letter : ℕ → Bool
no_letter b = not ((leb 65 b && leb b 90) || (leb 97 b && leb b 122))
