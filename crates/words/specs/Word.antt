-- Which token a word after `%` is, and where it ends.
use Rattle.std.specs.Prelude.{ℕ, ◌+◌, Bool, true, false, ◌&&◌, List, [], ◌∷◌, eqb, ltb, length, drop}
use Rattle.std.specs.Float.Ieee.{of_bits}
use Rattle.std.specs.Float.{binary64}
use Rattle.refusal.specs.Numbers.{unknown_word, beyond_slice}
use Rattle.refusal.specs.Paper.{Paper, gives, more, refused, Spot, spot, pick}
use Rattle.token.specs.declared.Token.{Token}
use Rattle.token.specs.declared.Token.TheVariants.{Boolean, Double}

-- a double by its bits
abbrev pub double : ℕ → Token
double bits = Double (of_bits binary64 bits) bits

-- a word's bytes, and the token that it is
pub record Word : Type 0 where
  pub bytes : List ℕ
  pub token : Token

-- after `%` comes `true`, `false`, `nan` (bits 7FF8000000000000), `inf` or `-inf`
abbrev pub words : List Word
words =
    record { bytes = 116 ∷ 114 ∷ 117 ∷ 101 ∷ []; token = Boolean true }
    ∷ record { bytes = 102 ∷ 97 ∷ 108 ∷ 115 ∷ 101 ∷ []; token = Boolean false }
    ∷ record { bytes = 110 ∷ 97 ∷ 110 ∷ []; token = double 0x7ff8_0000_0000_0000 }
    ∷ record { bytes = 105 ∷ 110 ∷ 102 ∷ []; token = double 0x7ff0_0000_0000_0000 }
    ∷ record { bytes = 45 ∷ 105 ∷ 110 ∷ 102 ∷ []; token = double 0xfff0_0000_0000_0000 }
    ∷ []

-- the bytes of a word stand in front, and any byte may follow
unfoldable pub stands : List ℕ → List ℕ → Bool
stands [] t = true
stands (a ∷ w) [] = false
stands (a ∷ w) (b ∷ t) = eqb b a && stands w t

-- the first word of a list that stands in front of t, where `%` stands at a place
unfoldable pub word_of : ℕ → List Word → List ℕ → Paper (Spot Token)
word_of at [] t = refused unknown_word (at ∷ [])
word_of at (w ∷ ws) t = pick (stands w.bytes t) (gives (spot w.token at (at + 1 + length w.bytes))) (word_of at ws t)

-- the word whose `%` stands at a place: beyond the slice there is none, and at its end more bytes are needed
unfoldable pub word_at : List ℕ → ℕ → Paper (Spot Token)
word_at s at =
    pick (ltb (length s) at) (refused beyond_slice []) (pick (eqb (length s) at) more (word_of at words (drop (at + 1) s)))
