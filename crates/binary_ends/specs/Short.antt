-- Strings whose length is one byte.
use Rattle.std.specs.Prelude.{ℕ, ◌+◌, List, length, get_or, ltb, Option, None}
use Rattle.refusal.specs.Paper.{pick}
use Rattle.token.specs.Meaning.{kinds_of}
use Rattle.token.specs.Ends.{string_end}
use Rattle.binary.specs.Binary.{binary_from}

-- the place after the string at a place where the byte behind its marker is its whole length, where such a string
-- stands there whole
unfoldable pub short_string_end : List ℕ → ℕ → Option ℕ
short_string_end s at = pick (ltb (at + 1) (length s)) (pick (ltb (get_or s (at + 1) 0) 128) (string_end (kinds_of (binary_from s at))) None) None
