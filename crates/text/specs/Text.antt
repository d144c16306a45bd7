-- Text tokens: which one stands at a place, behind blanks and comments. Its first byte says what it is.
use Rattle.std.specs.Prelude.{ℕ, ◌-◌, Bool, ◌||◌, List, [], eqb, ltb, length, get_or}
use Rattle.refusal.specs.Numbers.{beyond_slice}
use Rattle.refusal.specs.Paper.{Paper, gives, more, refused, Spot, spot, pick}
use Rattle.token.specs.declared.Token.{Token}
use Rattle.token.specs.declared.Token.TheVariants.{String}
use Rattle.token.specs.Marks.{mark_of, of_mark}
use Rattle.blanks.specs.Skip.{skip_from}
use Rattle.pieces.specs.Bytes.{quote}
use Rattle.quoted.specs.Quoted.{quoted_at}
use Rattle.token.specs.Digits.{is_digit}
use Rattle.number.specs.Bytes.{is_sign}
use Rattle.number.specs.Number.{number_at}
use Rattle.words.specs.Word.{word_at}
use Rattle.words.specs.Plain.{is_letter, plain_end}

-- `%`, before a word
abbrev pub percent : ℕ
percent = 0x25

-- a number starts with a digit or a sign
abbrev pub starts_number : ℕ → Bool
starts_number b = is_digit b || is_sign b

-- an unquoted string starts with a letter or `_`
abbrev pub starts_plain : ℕ → Bool
starts_plain b = is_letter b || eqb b 0x5F

-- an unquoted string: a letter or `_`, then letters, digits, `_ - .`
unfoldable pub plain_at : List ℕ → ℕ → Paper (Spot Token)
plain_at s p = gives (spot (String p (plain_end s p - p)) p (plain_end s p))

-- the token whose first byte, b, stands at the place p; a byte that starts none is refused 1, a lone `/` too
unfoldable pub started : List ℕ → ℕ → ℕ → Paper (Spot Token)
started s p b =
    pick (eqb b quote) (quoted_at s p)
    (pick (eqb b percent) (word_at s p)
    (pick (starts_number b) (number_at s p)
    (pick (starts_plain b) (plain_at s p)
    (of_mark p (mark_of b)))))

-- the token whose first byte stands at the place p: at the end of the bytes more are needed
unfoldable pub started_at : List ℕ → ℕ → Paper (Spot Token)
started_at s p = pick (ltb p (length s)) (started s p (get_or s p 0)) more

-- the token at a place: the first behind the blanks and comments there
unfoldable pub text_from : List ℕ → ℕ → Paper (Spot Token)
text_from s at = started_at s (skip_from s at)

-- the same for a caller's place, which may lie beyond the slice
unfoldable pub text_at : List ℕ → ℕ → Paper (Spot Token)
text_at s at = pick (ltb (length s) at) (refused beyond_slice []) (text_from s at)
