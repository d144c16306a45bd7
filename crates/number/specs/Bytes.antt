-- The bytes of number text, by class.
use Rattle.std.specs.Prelude.{ℕ, Bool, true, false, ◌&&◌, ◌||◌, List, [], ◌∷◌, eqb}
use Rattle.token.specs.Digits.{is_digit}

-- `-`
abbrev pub is_minus : ℕ → Bool
is_minus b = eqb b 45

-- `+` or `-`
unfoldable pub is_sign : ℕ → Bool
is_sign b = eqb b 43 || is_minus b

-- `.`
abbrev pub is_point : ℕ → Bool
is_point b = eqb b 46

-- `e` or `E`
unfoldable pub is_exponent : ℕ → Bool
is_exponent b = eqb b 101 || eqb b 69

-- `.`, `e` or `E`: number text with one of these is a double's
unfoldable pub is_pointed : ℕ → Bool
is_pointed b = is_point b || is_exponent b

-- numbers run over digits, `+ - . e E`
unfoldable pub is_text : ℕ → Bool
is_text b = is_digit b || (is_sign b || is_pointed b)

-- `u`, after which a number stops
abbrev pub is_unsigned : ℕ → Bool
is_unsigned b = eqb b 117

-- the first byte is of a class; no byte is of none
abbrev pub starts : (ℕ → Bool) → List ℕ → Bool
starts f [] = false
starts f (b ∷ l) = f b

-- some byte is of a class
unfoldable pub any : (ℕ → Bool) → List ℕ → Bool
any f [] = false
any f (b ∷ l) = f b || any f l

-- every byte is of a class
unfoldable pub all : (ℕ → Bool) → List ℕ → Bool
all f [] = true
all f (b ∷ l) = f b && all f l
