-- The grammar of number text. Each part of it answers what is left of the bytes behind it.
use Rattle.std.specs.Prelude.{ℕ, ◌+◌, ◌*◌, ◌-◌, Bool, true, false, ◌&&◌, ◌||◌, List, [], ◌∷◌, leb}
use Rattle.refusal.specs.Paper.{pick}
use Rattle.token.specs.Digits.{is_digit}
use Rattle.number.specs.Bytes.{is_sign, is_point, is_exponent, starts, all}

-- the bytes of a class in front, and what is left behind them
unfoldable pub front : (ℕ → Bool) → List ℕ → List ℕ
front f [] = []
front f (b ∷ l) = pick (f b) (b ∷ front f l) []

unfoldable pub past : (ℕ → Bool) → List ℕ → List ℕ
past f [] = []
past f (b ∷ l) = pick (f b) (past f l) (b ∷ l)

-- what is left behind an optional sign
unfoldable pub after_sign : List ℕ → List ℕ
after_sign [] = []
after_sign (b ∷ l) = pick (is_sign b) l (b ∷ l)

-- what is left behind a part of the grammar, or that the part does not stand there
pub data Left : Type 0 where
  none : Left
  left : List ℕ → Left

-- one part, and then another
abbrev pub onward : (List ℕ → Left) → Left → Left
onward f none = none
onward f (left l) = f l

-- a part that takes every byte
abbrev pub spent : Left → Bool
spent none = false
spent (left []) = true
spent (left (b ∷ l)) = false

-- at least one digit
unfoldable pub digits_left : List ℕ → Left
digits_left l = pick (starts is_digit l) (left (past is_digit l)) none

-- digits with at most one point and at least one digit: here behind the digits in front, of which there are some or none
unfoldable pub point_left : Bool → List ℕ → Left
point_left some [] = pick some (left []) none
point_left some (b ∷ l) =
    pick (is_point b)
    (pick (some || starts is_digit l) (left (past is_digit l)) none)
    (pick some (left (b ∷ l)) none)

unfoldable pub mantissa_left : List ℕ → Left
mantissa_left l = point_left (starts is_digit l) (past is_digit l)

-- optional exponent with optional sign and a digit
unfoldable pub exponent_left : List ℕ → Left
exponent_left [] = left []
exponent_left (b ∷ l) = pick (is_exponent b) (digits_left (after_sign l)) (left (b ∷ l))

-- optional sign, digits with at most one point and at least one digit, optional exponent with optional sign and a digit
unfoldable pub double_left : List ℕ → Left
double_left l = onward exponent_left (mantissa_left (after_sign l))

unfoldable pub is_double : List ℕ → Bool
is_double l = spent (double_left l)

-- one digit or more, and nothing else
unfoldable pub is_decimal : List ℕ → Bool
is_decimal l = starts is_digit l && all is_digit l

-- the number that digits write, behind those that write a
unfoldable pub value_after : ℕ → List ℕ → ℕ
value_after a [] = a
value_after a (b ∷ l) = value_after (a * 10 + (b - 48)) l

-- the number that digits write, however large
abbrev pub value : List ℕ → ℕ
value l = value_after 0 l

-- digits that write no more than a limit
unfoldable pub is_up_to : ℕ → List ℕ → Bool
is_up_to limit l = is_decimal l && leb (value l) limit
