-- Signed varints: a varint whose number is read as zigzag.
use Rattle.std.specs.Prelude.{ℕ, List, ℤ}
use Rattle.refusal.specs.Paper.{Paper, gives, more, refused, Got, got}
use Rattle.zigzag.specs.Zigzag.{signed}
use Rattle.varint.specs.Varint.{uvarint_at}

-- a varint's answer, its number read as zigzag
abbrev pub signed_answer : Paper (Got ℕ) → Paper (Got ℤ)
signed_answer (gives (got v next)) = gives (got (signed v) next)
signed_answer more = more
signed_answer (refused n vs) = refused n vs

-- the signed varint at a place of s
unfoldable pub varint_at : List ℕ → ℕ → Paper (Got ℤ)
varint_at s at = signed_answer (uvarint_at s at)
