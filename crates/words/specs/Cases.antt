-- What the private functions answer: which word stands at a place, as a case.
use Rattle.std.specs.Prelude.{ℕ, ◌+◌, ◌≤◌, ◌≡◌, true, false, List, [], ◌∷◌, length, drop, Option, Some, None, IfSome}
use Rattle.refusal.specs.Paper.{pick}
use Rattle.token.specs.declared.Token.{Token}
use Rattle.token.specs.declared.Token.TheVariants.{Boolean}
use Rattle.words.specs.Word.{double, stands}
use Rattle.words.specs.declared.Word.{Word}
use Rattle.words.specs.declared.Word.TheVariants.{True, False, Nan, Inf, NegInf}

-- the word in front of t
unfoldable pub word_in : List ℕ → Option Word
word_in t =
    pick (stands (116 ∷ 114 ∷ 117 ∷ 101 ∷ []) t) (Some True)
    (pick (stands (102 ∷ 97 ∷ 108 ∷ 115 ∷ 101 ∷ []) t) (Some False)
    (pick (stands (110 ∷ 97 ∷ 110 ∷ []) t) (Some Nan)
    (pick (stands (105 ∷ 110 ∷ 102 ∷ []) t) (Some Inf)
    (pick (stands (45 ∷ 105 ∷ 110 ∷ 102 ∷ []) t) (Some NegInf)
    None))))

-- how many bytes a word has
abbrev pub width : Word → ℕ
width True = 4
width False = 5
width Nan = 3
width Inf = 3
width NegInf = 4

-- the token that a word is
abbrev pub token_of : Word → Token
token_of True = Boolean true
token_of False = Boolean false
token_of Nan = double 0x7ff8_0000_0000_0000
token_of Inf = double 0x7ff0_0000_0000_0000
token_of NegInf = double 0xfff0_0000_0000_0000

-- the word at a place of s, which lies within s
pub record WordAt (s : List ℕ) (p : ℕ) (r : Option Word) : Type 0 where
  pub word : r ≡ word_in (drop p s)
  pub fits : IfSome r (λ w. p + width w ≤ length s)
