-- What text ignores between tokens. Each of three functions counts the bytes ignored at the front of a list: between tokens, in a
-- `//` comment, in a `/*` comment.
use Rattle.std.specs.Prelude.{Bool, true, ℕ, suc, ◌+◌, List, [], ◌∷◌, eqb, drop}
use Rattle.refusal.specs.Paper.{pick}

-- blanks are 09 0A 0C 0D 20
unfoldable pub is_blank : ℕ → Bool
is_blank b =
    pick (eqb b 0x09) true
    (pick (eqb b 0x0A) true
    (pick (eqb b 0x0C) true
    (pick (eqb b 0x0D) true
    (eqb b 0x20))))

abbrev pub newline : ℕ
newline = 0x0A

-- `*`
abbrev pub star : ℕ
star = 0x2A

-- `/`
abbrev pub slash : ℕ
slash = 0x2F

unfoldable mutual
  -- between tokens: blanks, and comments, which `//` and `/*` open; a lone `/` is not ignored
  pub ignored : List ℕ → ℕ
  ignored [] = 0
  ignored (b ∷ []) = pick (is_blank b) 1 0
  ignored (b ∷ (c ∷ l)) =
      pick (is_blank b) (suc (ignored (c ∷ l)))
      (pick (eqb b slash) (pick (eqb c slash) (suc (suc (in_line l))) (pick (eqb c star) (suc (suc (in_block l))) 0)) 0)

  -- `//` runs to a newline or the end
  pub in_line : List ℕ → ℕ
  in_line [] = 0
  in_line (b ∷ l) = pick (eqb b newline) (suc (ignored l)) (suc (in_line l))

  -- `/*` runs to `*/`, else to the end
  pub in_block : List ℕ → ℕ
  in_block [] = 0
  in_block (b ∷ []) = 1
  in_block (b ∷ (c ∷ l)) = pick (eqb b star) (pick (eqb c slash) (suc (suc (ignored l))) (suc (in_block (c ∷ l)))) (suc (in_block (c ∷ l)))

-- the first place from at on that is not ignored
unfoldable pub skip_from : List ℕ → ℕ → ℕ
skip_from s at = at + ignored (drop at s)
