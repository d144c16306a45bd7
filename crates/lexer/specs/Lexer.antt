-- Tokens and strings in either format: what stands at a place, and what the scan sees of it.
use Rattle.std.specs.Prelude.{ℕ, List, [], ltb, length}
use Rattle.refusal.specs.Numbers.{beyond_slice}
use Rattle.refusal.specs.Paper.{Paper, refused, Got, Spot, pick}
use Rattle.refusal.specs.declared.Format.{Format}
use Rattle.refusal.specs.declared.Format.TheVariants.{Binary, Text}
use Rattle.token.specs.declared.Token.{Token}
use Rattle.token.specs.declared.Kind.{Kind}
use Rattle.token.specs.declared.Kind.TheVariants.{OpenList, CloseList, OpenMap, CloseMap, OpenAttributes, CloseAttributes, Equals, Semicolon}
use Rattle.token.specs.Meaning.{kinds_of}
use Rattle.binary.specs.Binary.{binary_from}
use Rattle.binary.specs.Strings.{binary_string_at}
use Rattle.blanks.specs.Skip.{skip_from}
use Rattle.text.specs.Text.{text_from}
use Rattle.text.specs.Strings.{text_string_at}

-- the token at a place, or behind what is ignored there; at the end of the bytes more are needed
unfoldable pub token_from : Format → List ℕ → ℕ → Paper (Spot Token)
token_from Binary s at = binary_from s at
token_from Text s at = text_from s at

-- the same for a caller's place, which may lie beyond the slice
unfoldable pub token_at : Format → List ℕ → ℕ → Paper (Spot Token)
token_at f s at = pick (ltb (length s) at) (refused beyond_slice []) (token_from f s at)

-- what the scan sees of the token at a place
unfoldable pub kind_at : Format → List ℕ → ℕ → Paper (Spot Kind)
kind_at f s at = kinds_of (token_from f s at)

-- the first place from a place on that is not ignored: nothing is in binary, blanks and comments are in text
unfoldable pub skip_of : Format → List ℕ → ℕ → ℕ
skip_of Binary s at = at
skip_of Text s at = skip_from s at

-- the string at a place: its bytes and the place after it, or 26, the token's own answer, 14
unfoldable pub string_at : Format → List ℕ → ℕ → Paper (Got (List ℕ))
string_at Binary s at = binary_string_at s at
string_at Text s at = text_string_at s at

-- the marks that the scan goes by, and their kinds
pub data Mark : ℕ → Kind → Type 0 where
  list_opens : Mark 0x5B OpenList
  list_closes : Mark 0x5D CloseList
  map_opens : Mark 0x7B OpenMap
  map_closes : Mark 0x7D CloseMap
  attributes_open : Mark 0x3C OpenAttributes
  attributes_close : Mark 0x3E CloseAttributes
  equals_stands : Mark 0x3D Equals
  separator_stands : Mark 0x3B Semicolon
