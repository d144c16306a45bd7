-- What `escape` and `measure` answer: a piece, and the count of bytes that a walk over pieces gives.
use Rattle.std.specs.Prelude.{ℕ, length, Result, Ok, Err}
use Rattle.pieces.specs.Pieces.{End, closed, bad_hex, cut, Piece, byte, ends, Walk}
use Rattle.pieces.specs.declared.Escaped.{Escaped}
use Rattle.pieces.specs.declared.Broken.{Broken}
use Rattle.pieces.specs.declared.Broken.TheVariants.{Cut, Bad}

-- where pieces end that are not whole
abbrev pub broken_at : Broken → End
broken_at Cut = cut
broken_at Bad = bad_hex

-- an escape is a piece: its byte and how many input bytes it takes, or an end
abbrev pub piece_meaning : Result Escaped Broken → Piece
piece_meaning (Ok e) = byte e.byte e.size
piece_meaning (Err b) = ends (broken_at b)

-- only up to a closing quote are bytes counted
abbrev pub measured_as : End → ℕ → Result ℕ Broken
measured_as closed n = Ok n
measured_as bad_hex n = Err Bad
measured_as cut n = Err Cut

-- how many bytes a walk gives
unfoldable pub measure_of : Walk → Result ℕ Broken
measure_of w = measured_as w.end (length w.bytes)
