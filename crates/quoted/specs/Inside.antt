-- How the private functions answer: contracts of the code alone, and no part of what a quoted string is.
use Rattle.std.specs.Prelude.{ℕ, suc, ◌+◌, ◌<◌, ◌≡◌, List, [], ◌∷◌, eqb, length, get_or, drop, Option, Some, None}
use Rattle.refusal.specs.Paper.{pick}
use Rattle.pieces.specs.Bytes.{quote, backslash}
use Rattle.pieces.specs.Pieces.{End, closed, bad_hex, cut, walk}
use Rattle.quoted.specs.Quoted.{Closing, closes_at, unclosed, closing}

-- how many bytes at the front of a list are neither quote nor backslash
unfoldable pub plain : List ℕ → ℕ
plain [] = 0
plain (b ∷ l) = pick (eqb b quote) 0 (pick (eqb b backslash) 0 (suc (plain l)))

-- a string that is opened at the place at has its first backslash at p, and no quote before it
pub record Opens (s : List ℕ) (at p : ℕ) : Type 0 where
  pub opened : at < length s
  pub first : p ≡ at + 1 + plain (drop (at + 1) s)
  pub lies : p < length s
  pub escape : get_or s p 0 ≡ quote → ⊥

-- the closing quote, by its place
abbrev pub closing_by : Option ℕ → Closing
closing_by None = unclosed
closing_by (Some q) = closes_at q

-- the place after the closing quote; none where there is no such quote, or an escape before it is bad or cut
abbrev pub whole_by : End → Closing → Option ℕ
whole_by closed (closes_at q) = Some (q + 1)
whole_by closed unclosed = None
whole_by bad_hex c = None
whole_by cut c = None

-- the same, of the pieces from a place on
unfoldable pub whole_from : List ℕ → ℕ → Option ℕ
whole_from s p = whole_by (walk 0 (drop p s)).end (closing p (drop p s))
