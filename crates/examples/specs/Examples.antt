-- The worked examples that document 01 marks P, in one table: what is asked of the definitions, and what they must say.
use Rattle.std.specs.Prelude.{◌≡◌, ℕ, ◌-◌, ◌^◌, List, [], ◌∷◌, ◌++◌, replicate, ℤ, negsuc}
use Rattle.refusal.specs.Numbers.{negative_length, long_varint, wide_varint, not_value, too_deep}
use Rattle.refusal.specs.Paper.{Paper, gives, more, refused, Got, got}
use Rattle.refusal.specs.declared.Format.{Format}
use Rattle.refusal.specs.declared.Format.TheVariants.{Binary, Text}
use Rattle.varint.specs.Varint.{uvarint_at}
use Rattle.varint.specs.Signed.{varint_at}
use Rattle.lexer.specs.Lexer.{string_at}
use Rattle.scan.specs.Walk.{scan_of}

-- what is asked: a varint at the front of some bytes, unsigned or signed; a scan; the bytes of the string at the front
pub data Question : Type 0 where
  unsigned : List ℕ → Question
  signed : List ℕ → Question
  scan : Format → List ℕ → Question
  string : Format → List ℕ → Question

-- and what is answered
pub data Answer : Type 0 where
  number : Paper (Got ℕ) → Answer
  integer : Paper (Got ℤ) → Answer
  length : Paper ℕ → Answer
  bytes : Paper (Got (List ℕ)) → Answer

-- by the definitions
unfoldable pub answered : Question → Answer
answered (unsigned s) = number (uvarint_at s 0)
answered (signed s) = integer (varint_at s 0)
answered (scan f s) = length (scan_of f s)
answered (string f s) = bytes (string_at f s 0)

pub record Row : Type 0 where
  pub question : Question
  pub answer : Answer

abbrev pub row : Question → Answer → Row
row q a = record { question = q; answer = a }

unfoldable pub rows : List Row
rows =
    -- varint 80 00: 0, two bytes
    row (unsigned (0x80 ∷ 0x00 ∷ [])) (number (gives (got 0 2)))
    -- nine FF and 01: 2^64 - 1, signed -2^63
    ∷ row (unsigned (replicate 9 0xFF ++ 0x01 ∷ [])) (number (gives (got (2 ^ 64 - 1) 10)))
    ∷ row (signed (replicate 9 0xFF ++ 0x01 ∷ [])) (integer (gives (got (negsuc (2 ^ 63 - 1)) 10)))
    -- nine FF and 02: 4
    ∷ row (unsigned (replicate 9 0xFF ++ 0x02 ∷ [])) (number (refused wide_varint (0 ∷ [])))
    -- ten 80: more; with 00 after: 3
    ∷ row (unsigned (replicate 10 0x80)) (number more)
    ∷ row (unsigned (replicate 10 0x80 ++ 0x00 ∷ [])) (number (refused long_varint (0 ∷ [])))
    -- binary 01 02 61: length 3
    ∷ row (scan Binary (0x01 ∷ 0x02 ∷ 0x61 ∷ [])) (length (gives 3))
    -- 01 01: 2
    ∷ row (scan Binary (0x01 ∷ 0x01 ∷ [])) (length (refused negative_length (0 ∷ [])))
    -- 01 81: Incomplete
    ∷ row (scan Binary (0x01 ∷ 0x81 ∷ [])) (length more)
    -- 128 5B, 128 5D: length 256
    ∷ row (scan Binary (replicate 128 0x5B ++ replicate 128 0x5D)) (length (gives 256))
    -- 129 5B: 13 at 128
    ∷ row (scan Binary (replicate 129 0x5B)) (length (refused too_deep (128 ∷ [])))
    -- text [1 2]: 5
    ∷ row (scan Text (0x5B ∷ 0x31 ∷ 0x20 ∷ 0x32 ∷ 0x5D ∷ [])) (length (gives 5))
    -- <a=1><b=2>#: 10 at 6
    ∷ row (scan Text (0x3C ∷ 0x61 ∷ 0x3D ∷ 0x31 ∷ 0x3E ∷ 0x3C ∷ 0x62 ∷ 0x3D ∷ 0x32 ∷ 0x3E ∷ 0x23 ∷ [])) (length (refused not_value (6 ∷ [])))
    -- "\777": bytes 3F 37
    ∷ row (string Text (0x22 ∷ 0x5C ∷ 0x37 ∷ 0x37 ∷ 0x37 ∷ 0x22 ∷ [])) (bytes (gives (got (0x3F ∷ 0x37 ∷ []) 6)))
    -- /*/: Incomplete
    ∷ row (scan Text (0x2F ∷ 0x2A ∷ 0x2F ∷ [])) (length more)
    ∷ []

-- each row holds: the definitions answer its question so
abbrev pub Hold : List Row → Type 0
Hold [] = Unit {0}
Hold (r ∷ rs) = (answered r.question ≡ r.answer) × Hold rs
