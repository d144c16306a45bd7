-- A quoted string, after its opening quote, as a run of pieces: each gives one byte, until the closing quote.
use Rattle.std.specs.Prelude.{ℕ, zero, suc, ◌+◌, ◌*◌, ◌-◌, List, [], ◌∷◌, eqb, leb}
use Rattle.refusal.specs.Paper.{pick}
use Rattle.pieces.specs.Bytes.{quote, backslash, plus, hex_digit, is_hex, octal_digit, is_octal}

-- where the pieces end: at the closing quote, at a bad `\x` escape, or at the end of the input
pub data End : Type 0 where
  closed : End
  bad_hex : End
  cut : End

-- a piece: the byte that it gives and how many input bytes it takes, or an end
pub data Piece : Type 0 where
  byte : ℕ → ℕ → Piece
  ends : End → Piece

-- after `\x`: two bytes that are hex digits, or `+` and one hex digit; with fewer than two input bytes after it the input is cut
unfoldable pub hex_of : List ℕ → Piece
hex_of [] = ends cut
hex_of (a ∷ []) = ends cut
hex_of (a ∷ (b ∷ l)) =
    pick (is_hex b)
    (pick (is_hex a) (byte (hex_digit a * 16 + hex_digit b) 4)
    (pick (eqb a plus) (byte (hex_digit b) 4) (ends bad_hex)))
    (ends bad_hex)

-- after two octal digits of the value v: a third only if the value stays at most 255
unfoldable pub third_of : ℕ → List ℕ → Piece
third_of v [] = byte v 3
third_of v (c ∷ l) =
    pick (is_octal c) (pick (leb (v * 8 + octal_digit c) 255) (byte (v * 8 + octal_digit c) 4) (byte v 3)) (byte v 3)

-- after one octal digit of the value v
unfoldable pub octal_of : ℕ → List ℕ → Piece
octal_of v [] = byte v 2
octal_of v (c ∷ l) = pick (is_octal c) (third_of (v * 8 + octal_digit c) l) (byte v 2)

-- after a backslash: `n r t`; `\x`; one to three octal digits; any other byte is itself, `\` and `"` among them
unfoldable pub escape_of : List ℕ → Piece
escape_of [] = ends cut
escape_of (c ∷ l) =
    pick (eqb c 0x6E) (byte 0x0A 2)
    (pick (eqb c 0x72) (byte 0x0D 2)
    (pick (eqb c 0x74) (byte 0x09 2)
    (pick (eqb c 0x78) (hex_of l)
    (pick (is_octal c) (octal_of (octal_digit c) l)
    (byte c 2)))))

-- the piece at the front of a list
unfoldable pub piece_of : List ℕ → Piece
piece_of [] = ends cut
piece_of (b ∷ l) = pick (eqb b quote) (ends closed) (pick (eqb b backslash) (escape_of l) (byte b 1))

-- what the pieces of a list come to: the bytes that they give, and where they end
pub record Walk : Type 0 where
  pub bytes : List ℕ
  pub end : End

-- a byte, and what the later pieces come to
abbrev pub giving : ℕ → Walk → Walk
giving v w = record { bytes = v ∷ w.bytes; end = w.end }

-- after a piece of k input bytes its other k - 1 are passed over
abbrev pub onward : Piece → (ℕ → Walk) → Walk
onward (byte v k) w = giving v (w (k - 1))
onward (ends e) w = record { bytes = []; end = e }

-- the pieces, first to last, of a list whose first n bytes are passed over
unfoldable pub walk : ℕ → List ℕ → Walk
walk n [] = record { bytes = []; end = cut }
walk (suc n) (b ∷ l) = walk n l
walk zero (b ∷ l) = onward (piece_of (b ∷ l)) (λ k. walk k l)
