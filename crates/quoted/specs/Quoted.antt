-- The quoted string whose opening quote stands at a place: the token, its end, and its bytes with escapes undone.
use Rattle.std.specs.Prelude.{ℕ, ◌+◌, ◌-◌, Bool, true, false, List, [], ◌∷◌, eqb, ltb, leb, length, take, drop}
use Rattle.refusal.specs.Numbers.{beyond_slice, bad_hex_escape}
use Rattle.refusal.specs.Paper.{Paper, gives, more, refused, Got, got, Spot, spot, pick}
use Rattle.token.specs.declared.Token.{Token}
use Rattle.token.specs.declared.Token.TheVariants.{String, Escaped}
use Rattle.pieces.specs.Bytes.{quote, backslash}
use Rattle.pieces.specs.Pieces.{End, closed, bad_hex, cut, walk}

-- the place of the closing quote, if there is one
pub data Closing : Type 0 where
  closes_at : ℕ → Closing
  unclosed : Closing

unfoldable mutual
  -- the closing quote of a list that starts at the place p
  pub closing : ℕ → List ℕ → Closing
  closing p [] = unclosed
  closing p (b ∷ l) = pick (eqb b quote) (closes_at p) (pick (eqb b backslash) (hidden (p + 1) l) (closing (p + 1) l))

  -- a backslash hides one byte
  pub hidden : ℕ → List ℕ → Closing
  hidden p [] = unclosed
  hidden p (b ∷ l) = closing (p + 1) l

-- whether a byte stands in a list
unfoldable pub stands : ℕ → List ℕ → Bool
stands b [] = false
stands b (c ∷ l) = pick (eqb c b) true (stands b l)

-- the token between the quotes: `Escaped` where a backslash stands in it
abbrev pub token_of : List ℕ → ℕ → ℕ → Token
token_of s start len = pick (stands backslash (take len (drop start s))) (Escaped start len) (String start len)

-- a string that is closed is whole, unless its escapes, judged first to last, have a bad `\x` or one that the input cuts
abbrev pub judged : End → ℕ → Token → ℕ → Paper (Spot Token)
judged closed at t next = gives (spot t at next)
judged bad_hex at t next = refused bad_hex_escape (at ∷ [])
judged cut at t next = more

-- only where the closing quote is found are escapes judged
abbrev pub closed_as : List ℕ → ℕ → Closing → Paper (Spot Token)
closed_as s at (closes_at q) = judged (walk 0 (drop (at + 1) s)).end at (token_of s (at + 1) (q - (at + 1))) (q + 1)
closed_as s at unclosed = more

-- the quoted string whose opening quote stands at the place at
unfoldable pub quoted_at : List ℕ → ℕ → Paper (Spot Token)
quoted_at s at =
    pick (ltb (length s) at) (refused beyond_slice [])
    (pick (leb (length s) at) more
    (closed_as s at (closing (at + 1) (drop (at + 1) s))))

-- its bytes, with escapes undone
unfoldable pub quoted_bytes : List ℕ → ℕ → List ℕ
quoted_bytes s at = (walk 0 (drop (at + 1) s)).bytes

-- a token's answer with bytes in the place of the token
abbrev pub with_bytes : List ℕ → Paper (Spot Token) → Paper (Got (List ℕ))
with_bytes bytes (gives (spot t first next)) = gives (got bytes next)
with_bytes bytes more = more
with_bytes bytes (refused n vs) = refused n vs

-- the bytes of the quoted string at a place and the place after it, or why there is none
unfoldable pub quoted_string_at : List ℕ → ℕ → Paper (Got (List ℕ))
quoted_string_at s at = with_bytes (quoted_bytes s at) (quoted_at s at)
