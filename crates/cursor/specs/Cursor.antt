-- The byte that a cursor looks at.
use Rattle.std.specs.Prelude.{ℕ, List, [], ltb, length, get_or, Result, Ok, Err}
use Rattle.refusal.specs.Numbers.{beyond_slice}
use Rattle.refusal.specs.Paper.{Paper, gives, more, refused, pick}
use Rattle.refusal.specs.declared.Format.{Format}
use Rattle.lexer.specs.Lexer.{skip_of}
use Rattle.cursor.specs.declared.Peeked.{Peeked}
use Rattle.cursor.specs.declared.NoByte.{NoByte}
use Rattle.cursor.specs.declared.NoByte.TheVariants.{Incomplete, Beyond}

-- an answer about a byte: the byte and its place, more bytes are needed, or 26
abbrev pub peek_meaning : Result Peeked NoByte → Paper (ℕ × ℕ)
peek_meaning (Ok p) = gives (p.byte, p.place)
peek_meaning (Err Incomplete) = more
peek_meaning (Err Beyond) = refused beyond_slice []

-- the byte at a place within the slice; at the end of the bytes more are needed
unfoldable pub byte_here : List ℕ → ℕ → Paper (ℕ × ℕ)
byte_here s p = pick (ltb p (length s)) (gives (get_or s p 0, p)) more

-- the byte behind what is ignored at a place; a place beyond the slice is refused
unfoldable pub byte_at : Format → List ℕ → ℕ → Paper (ℕ × ℕ)
byte_at f s at = pick (ltb (length s) at) (refused beyond_slice []) (byte_here s (skip_of f s at))
