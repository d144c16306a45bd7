-- The bytes that quoted strings give a meaning, and digits as numbers.
use Rattle.std.specs.Prelude.{ℕ, ◌+◌, ◌-◌, Bool, ltb, leb}
use Rattle.refusal.specs.Paper.{pick}

-- `"`
abbrev pub quote : ℕ
quote = 0x22

-- `\`
abbrev pub backslash : ℕ
backslash = 0x5C

-- `+`
abbrev pub plus : ℕ
plus = 0x2B

-- a hex digit as a number: `0` to `9`, `A` to `F`, `a` to `f`; 16 for any other byte
unfoldable pub hex_digit : ℕ → ℕ
hex_digit b =
    pick (ltb b 0x30) 16
    (pick (leb b 0x39) (b - 0x30)
    (pick (ltb b 0x41) 16
    (pick (leb b 0x46) (b - 0x41 + 10)
    (pick (ltb b 0x61) 16
    (pick (leb b 0x66) (b - 0x61 + 10) 16)))))

abbrev pub is_hex : ℕ → Bool
is_hex b = ltb (hex_digit b) 16

-- an octal digit as a number: `0` to `7`; 8 for any other byte
unfoldable pub octal_digit : ℕ → ℕ
octal_digit b = pick (ltb b 0x30) 8 (pick (leb b 0x37) (b - 0x30) 8)

abbrev pub is_octal : ℕ → Bool
is_octal b = ltb (octal_digit b) 8
