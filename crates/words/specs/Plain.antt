-- Unquoted strings: a letter or `_`, then letters, digits, `_ - .`.
use Rattle.std.specs.Prelude.{ℕ, suc, ◌+◌, Bool, ◌&&◌, ◌||◌, List, [], ◌∷◌, eqb, leb, drop}
use Rattle.refusal.specs.Paper.{pick}
use Rattle.token.specs.Digits.{is_digit}

-- `A` to `Z`, and `a` to `z`
unfoldable pub is_letter : ℕ → Bool
is_letter b = (leb 65 b && leb b 90) || (leb 97 b && leb b 122)

-- letters, digits, `_ - .`
unfoldable pub is_plain : ℕ → Bool
is_plain b = is_letter b || (is_digit b || (eqb b 95 || (eqb b 45 || eqb b 46)))

-- how many such bytes stand in front
unfoldable pub plain_run : List ℕ → ℕ
plain_run [] = 0
plain_run (b ∷ l) = pick (is_plain b) (suc (plain_run l)) 0

-- the first place from a place on whose byte is no letter, digit, `_`, `-` or `.`
unfoldable pub plain_end : List ℕ → ℕ → ℕ
plain_end s at = at + plain_run (drop at s)
