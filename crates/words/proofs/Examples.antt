-- Worked examples of words and of unquoted strings: a table for each, and one claim about all its rows.
use Prim.Native.Nat.{ℕ}
use mathlib.Core.Path.{◌≡◌, refl}
use mathlib.Core.Bool.{true, false}
use mathlib.Core.List.{List, [], ◌∷◌, map}
use Rattle.refusal.specs.Numbers.{unknown_word}
use Rattle.refusal.specs.Paper.{Paper, gives, more, refused, Spot, spot}
use Rattle.token.specs.declared.Token.{Token}
use Rattle.token.specs.declared.Token.TheVariants.{Boolean}
use Rattle.words.specs.Word.{double, stands, word_of, word_at}
use Rattle.token.specs.Digits.{is_digit}
use Rattle.words.specs.Plain.{is_letter, is_plain, plain_run, plain_end}

-- the bytes, and the answer at their start
pub record Row : Type 0 where
  pub text : List ℕ
  pub answer : Paper (Spot Token)

abbrev pub rows : List Row
rows =
    -- %true
    record { text = 37 ∷ 116 ∷ 114 ∷ 117 ∷ 101 ∷ []; answer = gives (spot (Boolean true) 0 5) }
    -- %falsey
    ∷ record { text = 37 ∷ 102 ∷ 97 ∷ 108 ∷ 115 ∷ 101 ∷ 121 ∷ []; answer = gives (spot (Boolean false) 0 6) }
    -- %nan
    ∷ record { text = 37 ∷ 110 ∷ 97 ∷ 110 ∷ []; answer = gives (spot (double 0x7ff8_0000_0000_0000) 0 4) }
    -- %infinity
    ∷ record { text = 37 ∷ 105 ∷ 110 ∷ 102 ∷ 105 ∷ 110 ∷ 105 ∷ 116 ∷ 121 ∷ []; answer = gives (spot (double 0x7ff0_0000_0000_0000) 0 4) }
    -- %-inf;
    ∷ record { text = 37 ∷ 45 ∷ 105 ∷ 110 ∷ 102 ∷ 59 ∷ []; answer = gives (spot (double 0xfff0_0000_0000_0000) 0 5) }
    -- %tr
    ∷ record { text = 37 ∷ 116 ∷ 114 ∷ []; answer = refused unknown_word (0 ∷ []) }
    -- %
    ∷ record { text = 37 ∷ []; answer = refused unknown_word (0 ∷ []) }
    ∷ record { text = []; answer = more }
    ∷ []

pub all_rows : map (λ (r : Row). word_at r.text 0) rows ≡ map (λ (r : Row). r.answer) rows
unfolding stands word_of word_at
all_rows = refl

-- the bytes, and the place where the unquoted string at their start ends
pub record Ending : Type 0 where
  pub bytes : List ℕ
  pub place : ℕ

abbrev pub endings : List Ending
endings =
    -- a_-.Z9=
    record { bytes = 97 ∷ 95 ∷ 45 ∷ 46 ∷ 90 ∷ 57 ∷ 61 ∷ []; place = 6 }
    -- b
    ∷ record { bytes = 98 ∷ []; place = 1 }
    -- ;
    ∷ record { bytes = 59 ∷ []; place = 0 }
    ∷ []

pub all_endings : map (λ (r : Ending). plain_end r.bytes 0) endings ≡ map (λ (r : Ending). r.place) endings
unfolding is_letter is_digit is_plain plain_run plain_end
all_endings = refl
