-- Worked examples of what is ignored: one table, and one claim about all its rows.
use Rattle.std.specs.Prelude.{ℕ, ◌≡◌, refl, List, [], ◌∷◌, map}
use Rattle.blanks.specs.Skip.{is_blank, ignored, skip_from}

-- a text, and the first place in it that is not ignored
pub record Row : Type 0 where
  pub text : List ℕ
  pub place : ℕ

abbrev pub rows : List Row
rows =
    -- `/*/` does not close
    record { text = 47 ∷ 42 ∷ 47 ∷ []; place = 3 }
    -- `/**/a`
    ∷ record { text = 47 ∷ 42 ∷ 42 ∷ 47 ∷ 97 ∷ []; place = 4 }
    -- `/***/` and then 20 0D 0B: 0B is no blank
    ∷ record { text = 47 ∷ 42 ∷ 42 ∷ 42 ∷ 47 ∷ 32 ∷ 13 ∷ 11 ∷ []; place = 7 }
    -- a blank, `//x`, a newline, a tab, and a lone `/` as last byte
    ∷ record { text = 32 ∷ 47 ∷ 47 ∷ 120 ∷ 10 ∷ 9 ∷ 47 ∷ []; place = 6 }
    -- `//`, 0D, `a`: 0D ends no comment
    ∷ record { text = 47 ∷ 47 ∷ 13 ∷ 97 ∷ []; place = 4 }
    -- `/a`
    ∷ record { text = 47 ∷ 97 ∷ []; place = 0 }
    ∷ []

pub all_places : map (λ (r : Row). skip_from r.text 0) rows ≡ map (λ (r : Row). r.place) rows
unfolding skip_from ignored is_blank
all_places = refl
