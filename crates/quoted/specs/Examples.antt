-- Worked examples of quoted strings: one table, and one claim about all its rows.
use Rattle.std.specs.Prelude.{ℕ, ◌≡◌, refl, List, [], ◌∷◌, map}
use Rattle.refusal.specs.Numbers.{bad_hex_escape}
use Rattle.refusal.specs.Paper.{Paper, gives, more, refused, Got, got}
use Rattle.pieces.specs.Bytes.{hex_digit, octal_digit}
use Rattle.pieces.specs.Pieces.{hex_of, third_of, octal_of, escape_of, piece_of, walk}
use Rattle.quoted.specs.Quoted.{closing, stands, quoted_at, quoted_bytes, quoted_string_at}

-- a text whose first byte is the opening quote, and the string's bytes and the place after it
pub record Row : Type 0 where
  pub text : List ℕ
  pub string : Paper (Got (List ℕ))

abbrev row : List ℕ → Paper (Got (List ℕ)) → Row
row t a = record { text = t; string = a }

abbrev pub rows : List Row
rows =
    -- "\777" is two bytes
    row (34 ∷ 92 ∷ 55 ∷ 55 ∷ 55 ∷ 34 ∷ []) (gives (got (0x3F ∷ 0x37 ∷ []) 6))
    -- "\400"
    ∷ row (34 ∷ 92 ∷ 52 ∷ 48 ∷ 48 ∷ 34 ∷ []) (gives (got (0x20 ∷ 0x30 ∷ []) 6))
    -- "\377" is one
    ∷ row (34 ∷ 92 ∷ 51 ∷ 55 ∷ 55 ∷ 34 ∷ []) (gives (got (0xFF ∷ []) 6))
    -- "\0000"
    ∷ row (34 ∷ 92 ∷ 48 ∷ 48 ∷ 48 ∷ 48 ∷ 34 ∷ []) (gives (got (0x00 ∷ 0x30 ∷ []) 7))
    -- "\x+4"
    ∷ row (34 ∷ 92 ∷ 120 ∷ 43 ∷ 52 ∷ 34 ∷ []) (gives (got (0x04 ∷ []) 6))
    -- "\x-4"
    ∷ row (34 ∷ 92 ∷ 120 ∷ 45 ∷ 52 ∷ 34 ∷ []) (refused bad_hex_escape (0 ∷ []))
    -- "\xzz"
    ∷ row (34 ∷ 92 ∷ 120 ∷ 122 ∷ 122 ∷ 34 ∷ []) (refused bad_hex_escape (0 ∷ []))
    -- "\xzz, unclosed
    ∷ row (34 ∷ 92 ∷ 120 ∷ 122 ∷ 122 ∷ []) more
    -- "\x" and nothing behind it
    ∷ row (34 ∷ 92 ∷ 120 ∷ 34 ∷ []) more
    -- "\x" and a byte behind it
    ∷ row (34 ∷ 92 ∷ 120 ∷ 34 ∷ 32 ∷ []) (refused bad_hex_escape (0 ∷ []))
    -- "\u0041" is the letter u and digits
    ∷ row (34 ∷ 92 ∷ 117 ∷ 48 ∷ 48 ∷ 52 ∷ 49 ∷ 34 ∷ []) (gives (got (117 ∷ 48 ∷ 48 ∷ 52 ∷ 49 ∷ []) 8))
    -- "a\"b\\"
    ∷ row (34 ∷ 97 ∷ 92 ∷ 34 ∷ 98 ∷ 92 ∷ 92 ∷ 34 ∷ []) (gives (got (97 ∷ 34 ∷ 98 ∷ 92 ∷ []) 8))
    -- ""
    ∷ row (34 ∷ 34 ∷ []) (gives (got [] 2))
    ∷ []

pub all_strings : map (λ (r : Row). quoted_string_at r.text 0) rows ≡ map (λ (r : Row). r.string) rows
unfolding quoted_string_at quoted_bytes quoted_at closing stands walk piece_of escape_of octal_of third_of hex_of octal_digit hex_digit
all_strings = refl
