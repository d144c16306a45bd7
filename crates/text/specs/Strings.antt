-- The bytes of a text string: a quoted one with its escapes undone, an unquoted one as it stands.
use Rattle.std.specs.Prelude.{ℕ, List, [], eqb, ltb, length, get_or}
use Rattle.refusal.specs.Numbers.{beyond_slice}
use Rattle.refusal.specs.Paper.{Paper, more, refused, Got, pick}
use Rattle.token.specs.Strings.{string_found}
use Rattle.blanks.specs.Skip.{skip_from}
use Rattle.pieces.specs.Bytes.{quote}
use Rattle.quoted.specs.Quoted.{quoted_string_at}
use Rattle.text.specs.Text.{started}

-- the string whose first byte, b, stands at the place p
unfoldable pub string_started : List ℕ → ℕ → ℕ → Paper (Got (List ℕ))
string_started s p b = pick (eqb b quote) (quoted_string_at s p) (string_found s (started s p b))

unfoldable pub string_started_at : List ℕ → ℕ → Paper (Got (List ℕ))
string_started_at s p = pick (ltb p (length s)) (string_started s p (get_or s p 0)) more

-- the string at a place: 26, the token's own answer, 14
unfoldable pub text_string_at : List ℕ → ℕ → Paper (Got (List ℕ))
text_string_at s at = pick (ltb (length s) at) (refused beyond_slice []) (string_started_at s (skip_from s at))
