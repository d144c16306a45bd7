-- A history of the reader's calls, in any order and with any arguments, and its account. Every byte taken is in one handed-out record,
-- one skipped separator, or still buffered, counted from the history of calls.
use Rattle.std.specs.Prelude.{◌≡◌, true, List, [], ◌∷◌, ◌++◌, ℕ, ◌+◌, length, take}
use Rattle.std.proofs.Math.Seq.{slice}
use Rattle.refusal.specs.Paper.{Paper, gives, more, refused}
use Rattle.blocks.specs.Readings.{Reader}
use Rattle.reader.specs.declared.State.{State}
use Rattle.reader.specs.Meaning.{Handed, handed, ended}
use Rattle.reader.specs.Calls.{offer_of, buffer_of, buffered_of, close_of, next_by}
use Rattle.buffer.specs.Buffer.{is_separator, record_of}

-- ---- the calls

-- a call; the state and the buffer are those that the call before it left
pub data Call : Type 0 where
  offer : List ℕ → Call
  next close : Call

-- a part of the stream that left the buffer: a record that was handed out, with its stream offset, or bytes that were skipped
pub data Part : Type 0 where
  record_at : ℕ → List ℕ → Part
  skipped : List ℕ → Part

-- where calls come to: the state and the buffer, and what happened: the bytes taken and the parts that left, both in order, and how
-- many pieces were accepted
pub record Came : Type 0 where
  pub state : State
  pub buffer : List ℕ
  pub taken : List ℕ
  pub parts : List Part
  pub pieces : ℕ

abbrev pub came : State → List ℕ → List ℕ → List Part → ℕ → Came
came s l taken parts n = record { state = s; buffer = l; taken = taken; parts = parts; pieces = n }

-- the part of a piece that was taken; a refused piece takes nothing
abbrev pub taken_from : Paper ℕ → List ℕ → List ℕ
taken_from (gives k) piece = take k piece
taken_from more piece = []
taken_from (refused n vs) piece = []

abbrev pub accepted_by : Paper ℕ → ℕ
accepted_by (gives k) = 1
accepted_by more = 0
accepted_by (refused n vs) = 0

-- what left the buffer in a call of next from the place `start` of the first buffered byte: a record, and what stood before it; else
-- what stood before the first byte that is buffered then, at `now`
abbrev pub parts_of : ℕ → List ℕ → Paper Handed → ℕ → List Part
parts_of start l (gives (handed p n o m)) now = skipped (slice start p l) ∷ record_at o (record_of l p n) ∷ []
parts_of start l (gives ended) now = skipped (slice start now l) ∷ []
parts_of start l more now = skipped (slice start now l) ∷ []
parts_of start l (refused n vs) now = skipped (slice start now l) ∷ []

-- one call
unfoldable pub call_of : Reader → State → List ℕ → Call → Came
call_of t s l (offer piece) =
    came (offer_of s (length l) (length piece)).state (buffer_of s piece l) (taken_from (offer_of s (length l) (length piece)).answer piece) []
    (accepted_by (offer_of s (length l) (length piece)).answer)
call_of t s l next = came (next_by t s l).state l [] (parts_of s.start l (next_by t s l).answer (next_by t s l).state.start) 0
call_of t s l close = came (close_of s (length l)).state l [] [] 0

-- what came, and what came of the calls behind it
abbrev pub and_then : Came → Came → Came
and_then a b = came b.state b.buffer (a.taken ++ b.taken) (a.parts ++ b.parts) (a.pieces + b.pieces)

-- the calls one after the other
unfoldable pub run : Reader → State → List ℕ → List Call → Came
run t s l [] = came s l [] [] 0
run t s l (c ∷ cs) = and_then (call_of t s l c) (run t (call_of t s l c).state (call_of t s l c).buffer cs)

-- ---- the account

-- the bytes of a part, and of parts in order
abbrev pub bytes_of : Part → List ℕ
bytes_of (record_at o bs) = bs
bytes_of (skipped bs) = bs

unfoldable pub all_of : List Part → List ℕ
all_of [] = []
all_of (x ∷ xs) = bytes_of x ++ all_of xs

-- each byte is a separator
unfoldable pub AllSeparators : List ℕ → Type 0
AllSeparators [] = Unit {0}
AllSeparators (b ∷ bs) = (is_separator b ≡ true) × AllSeparators bs

-- what is right of a part that stands at the stream offset o: skipped bytes are separators, and a record's offset is its own
abbrev pub Right : ℕ → Part → Type 0
Right o (record_at k bs) = k ≡ o
Right o (skipped bs) = AllSeparators bs

-- the same of parts that stand one after the other
unfoldable pub InOrder : ℕ → List Part → Type 0
InOrder o [] = Unit {0}
InOrder o (x ∷ xs) = Right o x × InOrder (o + length (bytes_of x)) xs

-- from the state s and the buffer l: the bytes buffered then and those taken since are the parts that left and the bytes that are
-- buffered now, in stream order; the stream offset went on by the parts; and each part is right where it stands
pub record Accounted (s : State) (l : List ℕ) (x : Came) : Type 0 where
  pub bytes : buffered_of s l ++ x.taken ≡ all_of x.parts ++ buffered_of x.state x.buffer
  pub offset : s.offset + length (all_of x.parts) ≡ x.state.offset
  pub order : InOrder s.offset x.parts
