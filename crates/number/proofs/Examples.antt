-- Worked examples of number tokens: one table, and one claim about all its rows.
use Prim.Native.Nat.{ℕ}
use mathlib.Core.Path.{◌≡◌, refl}
use mathlib.Core.List.{List, [], ◌∷◌, map}
use lib.IntN.{pos, negsuc}
use Rattle.refusal.specs.Numbers.{bad_uint64, bad_double, bad_int64}
use Rattle.refusal.specs.Paper.{Paper, gives, more, refused, Spot, spot}
use Rattle.token.specs.declared.Token.{Token}
use Rattle.token.specs.declared.Token.TheVariants.{Int64, Uint64, Decimal}
use Rattle.token.specs.Digits.{is_digit}
use Rattle.number.specs.Bytes.{is_sign, is_exponent, is_pointed, is_text, any, all}
use Rattle.number.specs.Grammar.{front, past, after_sign, digits_left, point_left, mantissa_left, exponent_left, double_left, is_double, is_decimal, value_after, is_up_to}
use Rattle.number.specs.Number.{is_uint64, is_int64, int64_of, uint64_text, double_text, int64_text, number_text, number_of, number_at}

-- the bytes, and the answer at their start
pub record Row : Type 0 where
  pub text : List ℕ
  pub answer : Paper (Spot Token)

abbrev pub rows : List Row
rows =
    -- 12
    record { text = 49 ∷ 50 ∷ []; answer = gives (spot (Int64 (pos 12)) 0 2) }
    -- -0u
    ∷ record { text = 45 ∷ 48 ∷ 117 ∷ []; answer = refused bad_uint64 (0 ∷ []) }
    -- +5u
    ∷ record { text = 43 ∷ 53 ∷ 117 ∷ []; answer = gives (spot (Uint64 5) 0 3) }
    -- 5.
    ∷ record { text = 53 ∷ 46 ∷ []; answer = gives (spot (Decimal 0 2) 0 2) }
    -- 1e
    ∷ record { text = 49 ∷ 101 ∷ []; answer = refused bad_double (0 ∷ []) }
    -- -
    ∷ record { text = 45 ∷ []; answer = refused bad_int64 (0 ∷ []) }
    -- 9223372036854775808
    ∷ record { text = 57 ∷ 50 ∷ 50 ∷ 51 ∷ 51 ∷ 55 ∷ 50 ∷ 48 ∷ 51 ∷ 54 ∷ 56 ∷ 53 ∷ 52 ∷ 55 ∷ 55 ∷ 53 ∷ 56 ∷ 48 ∷ 56 ∷ []; answer = refused bad_int64 (0 ∷ []) }
    -- -9223372036854775808
    ∷ record { text = 45 ∷ 57 ∷ 50 ∷ 50 ∷ 51 ∷ 51 ∷ 55 ∷ 50 ∷ 48 ∷ 51 ∷ 54 ∷ 56 ∷ 53 ∷ 52 ∷ 55 ∷ 55 ∷ 53 ∷ 56 ∷ 48 ∷ 56 ∷ []; answer = gives (spot (Int64 (negsuc 9223372036854775807)) 0 20) }
    -- 18446744073709551615u
    ∷ record { text = 49 ∷ 56 ∷ 52 ∷ 52 ∷ 54 ∷ 55 ∷ 52 ∷ 52 ∷ 48 ∷ 55 ∷ 51 ∷ 55 ∷ 48 ∷ 57 ∷ 53 ∷ 53 ∷ 49 ∷ 54 ∷ 49 ∷ 53 ∷ 117 ∷ []; answer = gives (spot (Uint64 18446744073709551615) 0 21) }
    -- 18446744073709551616u
    ∷ record { text = 49 ∷ 56 ∷ 52 ∷ 52 ∷ 54 ∷ 55 ∷ 52 ∷ 52 ∷ 48 ∷ 55 ∷ 51 ∷ 55 ∷ 48 ∷ 57 ∷ 53 ∷ 53 ∷ 49 ∷ 54 ∷ 49 ∷ 54 ∷ 117 ∷ []; answer = refused bad_uint64 (0 ∷ []) }
    -- 1.5u
    ∷ record { text = 49 ∷ 46 ∷ 53 ∷ 117 ∷ []; answer = refused bad_uint64 (0 ∷ []) }
    -- 5uu
    ∷ record { text = 53 ∷ 117 ∷ 117 ∷ []; answer = gives (spot (Uint64 5) 0 2) }
    -- 1-2]
    ∷ record { text = 49 ∷ 45 ∷ 50 ∷ 93 ∷ []; answer = refused bad_int64 (0 ∷ []) }
    -- -.5E+07;
    ∷ record { text = 45 ∷ 46 ∷ 53 ∷ 69 ∷ 43 ∷ 48 ∷ 55 ∷ 59 ∷ []; answer = gives (spot (Decimal 0 7) 0 7) }
    -- 1.2.3
    ∷ record { text = 49 ∷ 46 ∷ 50 ∷ 46 ∷ 51 ∷ []; answer = refused bad_double (0 ∷ []) }
    -- x
    ∷ record { text = 120 ∷ []; answer = refused bad_int64 (0 ∷ []) }
    ∷ record { text = []; answer = more }
    ∷ []

pub all_rows : map (λ (r : Row). number_at r.text 0) rows ≡ map (λ (r : Row). r.answer) rows
unfolding is_digit is_sign is_exponent is_pointed is_text any all front past after_sign digits_left point_left mantissa_left exponent_left double_left is_double is_decimal value_after is_up_to is_uint64 is_int64 int64_of uint64_text double_text int64_text number_text number_of number_at
all_rows = refl
