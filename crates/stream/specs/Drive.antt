-- The calls of promise 3, as a trace of what each next answers: a stream is cut into pieces, each offered until taken or next stops, next
-- called after each offer until it wants more or stops, the stream closed after the last piece and next called again until it stops.
use Rattle.std.specs.Prelude.{◌≡◌, ℕ, zero, suc, ◌+◌, ◌*◌, ◌≤◌, Bool, true, false, List, [], ◌∷◌, ◌++◌, eqb, ltb, length, drop}
use Rattle.refusal.specs.Paper.{Paper, gives, more, refused, pick}
use Rattle.blocks.specs.Readings.{Reader, binary}
use Rattle.reader.specs.declared.State.{State}
use Rattle.reader.specs.Meaning.{Handed, handed, ended, Looked}
use Rattle.reader.specs.Calls.{open_of, offer_of, buffer_of, close_of, next_by}
use Rattle.buffer.specs.Buffer.{record_of}
use Rattle.stream.specs.Whole.{Out, item, last}
use Rattle.stream.specs.Whole as out

-- one call of next: its answer, the bytes of a record handed out as they stand in the buffer then, its number of readings, and whether it
-- hands out no record and leaves a buffered byte unpassed
pub record Heard : Type 0 where
  pub answer : Paper Handed
  pub bytes : List ℕ
  pub readings : ℕ
  pub left : Bool

-- the calls of next; then next stopped (End or a refusal), a piece was refused, or the calls ran out
pub data Trace : Type 0 where
  heard : Heard → Trace → Trace
  stopped : Trace
  barred : Paper ℕ → Trace
  stuck : Trace

-- the bytes of a record handed out
abbrev pub bytes_of : Paper Handed → List ℕ → List ℕ
bytes_of (gives (handed p n o m)) l = record_of l p n
bytes_of (gives ended) l = []
bytes_of more l = []
bytes_of (refused n vs) l = []

-- no record is handed out, and of the bytes filled some are not passed
abbrev pub left_of : Paper Handed → State → Bool
left_of (gives (handed p n o m)) s = false
left_of (gives ended) s = ltb s.place s.filled
left_of more s = ltb s.place s.filled
left_of (refused n vs) s = ltb s.place s.filled

abbrev pub hearing : Looked → List ℕ → Heard
hearing r l = record { answer = r.answer; bytes = bytes_of r.answer l; readings = r.readings; left = left_of r.answer r.state }

-- what is called after next: next again behind a record, something else where it wants more, and nothing where it stopped
abbrev pub after_next : Paper Handed → (Bool → Trace) → Trace
after_next (gives (handed p n o m)) asks = asks true
after_next (gives ended) asks = stopped
after_next more asks = asks false
after_next (refused n vs) asks = stopped

-- what is called after a piece is offered
abbrev pub after_offer : Paper ℕ → (ℕ → Trace) → Trace
after_offer (gives k) next = next k
after_offer more next = barred more
after_offer (refused n vs) next = barred (refused n vs)

-- the calls over the pieces ps from a state and a buffer on; next is due where `asks`, else a piece, or closing where there is none. What is
-- left of a piece is offered again. Buffer and state are untouched between calls. Each call takes one of the fuel
unfoldable pub drive_by : Reader → ℕ → Bool → State → List ℕ → List (List ℕ) → Trace
drive_by t zero asks s l ps = stuck
drive_by t (suc f) true s l ps =
    heard (hearing (next_by t s l) l) (after_next (next_by t s l).answer (λ asks. drive_by t f asks (next_by t s l).state l ps))
drive_by t (suc f) false s l [] = drive_by t f true (close_of s (length l)).state l []
drive_by t (suc f) false s l (p ∷ ps) =
    after_offer (offer_of s (length l) (length p)).answer
    (λ k. drive_by t f true (offer_of s (length l) (length p)).state (buffer_of s p l) (pick (eqb k (length p)) ps (drop k p ∷ ps)))

-- the records are binary
abbrev pub drive : ℕ → Bool → State → List ℕ → List (List ℕ) → Trace
drive = drive_by binary

-- the pieces in a row
unfoldable pub joined : List (List ℕ) → List ℕ
joined [] = []
joined (p ∷ ps) = p ++ joined ps

-- as many calls as are enough for the pieces
abbrev pub enough : List (List ℕ) → ℕ
enough ps = 3 * length (joined ps) + 2 * length ps + 3

-- a caller who is handed the stream R in some pieces, from the offset o on and over a buffer of n bytes, whatever it holds
pub record Caller (n o : ℕ) (R : List ℕ) : Type 0 where
  pub pieces : List (List ℕ)
  pub buffer : List ℕ
  pub fuel : ℕ
  pub joins : joined pieces ≡ R
  pub long : length buffer ≡ n
  pub lasts : enough pieces ≤ fuel

abbrev pub trace_of : {n o : ℕ} {R : List ℕ} → Caller n o R → Trace
trace_of {n} {o} {R} c = drive c.fuel false (open_of o (length c.buffer)).state c.buffer c.pieces

-- ---- what a trace says

-- records (bytes and marks, wherever they lie in the buffer), offsets and last answer
abbrev pub out_with : Paper Handed → List ℕ → Out → Out
out_with (gives (handed p n o m)) bytes x = item bytes m o x
out_with (gives ended) bytes x = last (gives ended)
out_with more bytes x = x
out_with (refused n vs) bytes x = last (refused n vs)

unfoldable pub out_of : Trace → Out
out_of (heard h r) = out_with h.answer h.bytes (out_of r)
out_of stopped = out.stuck
out_of (barred a) = out.stuck
out_of stuck = out.stuck

-- the readings of all calls
unfoldable pub readings_of : Trace → ℕ
readings_of (heard h r) = h.readings + readings_of r
readings_of stopped = 0
readings_of (barred a) = 0
readings_of stuck = 0

-- how many calls hand out no record and leave a buffered byte unpassed
unfoldable pub lefts_of : Trace → ℕ
lefts_of (heard h r) = pick h.left 1 0 + lefts_of r
lefts_of stopped = 0
lefts_of (barred a) = 0
lefts_of stuck = 0
