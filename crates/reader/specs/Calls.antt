-- The reader's calls as functions of the state and the buffer's bytes.
use Rattle.std.specs.Prelude.{ℕ, ◌+◌, ◌-◌, ◌≤◌, ◌<◌, min, ◌≡◌, true, false, List, [], ◌∷◌, ◌++◌, length, get_or, take, drop, eqb, leb}
use Rattle.std.proofs.Math.Seq.{slice}
use Rattle.refusal.specs.Numbers.{malformed_record, cut_short, record_too_long, buffer_length, after_closing, offset_too_high, strange_state}
use Rattle.refusal.specs.Paper.{Paper, gives, more, refused, pick}
use Rattle.buffer.specs.Buffer.{separators}
use Rattle.places.specs.Places.{is_buffer, offset_fits}
use Rattle.kept.specs.declared.Blocks.{Blocks}
use Rattle.kept.specs.Kept.{no_blocks}
use Rattle.blocks.specs.Readings.{Reached, Reader, read_by, binary}
use Rattle.reader.specs.declared.State.{State}
use Rattle.reader.specs.declared.Mark.{Mark}
use Rattle.reader.specs.declared.Mark.TheVariants.{Row, Control}
use Rattle.reader.specs.Fits.{held_of, fits}
use Rattle.reader.specs.Meaning.{Done, done, handed, ended, Told, told, Looked, looked}

-- ---- opening

-- nothing is taken, from the offset o on, over n bytes; the state of zeros is that of no bytes
abbrev pub new_state : ℕ → ℕ → State
new_state n o = record { len = n; offset = o; start = 0; place = 0; filled = 0; closed = false; blocks = no_blocks }

-- opening takes a start offset and a buffer of N bytes, 64 to 65,536; a refused opening gives a state of zeros
unfoldable pub open_of : ℕ → ℕ → Told Done
open_of o n = pick (is_buffer n) (told (gives done) (new_state n o)) (told (refused buffer_length []) (new_state 0 0))

-- ---- taking a piece

-- the bytes that are buffered
abbrev pub buffered_of : State → List ℕ → List ℕ
buffered_of s l = slice s.start s.filled l

-- as much of a piece of m bytes as there is room for
abbrev pub taken_of : State → ℕ → ℕ → ℕ
taken_of s n m = min m (n - held_of s)

-- the unconsumed bytes are moved to the front, and k bytes stand behind them
abbrev pub filled_by : State → ℕ → State
filled_by s k = record { len = s.len; offset = s.offset; start = 0; place = s.place - s.start; filled = held_of s + k; closed = s.closed; blocks = s.blocks }

-- order: 28, 24, 25; a refused piece hands the state back unchanged
unfoldable pub offer_of : State → ℕ → ℕ → Told ℕ
offer_of s n m =
    pick (fits s n)
    (pick s.closed (told (refused after_closing []) s)
    (pick (offset_fits (s.offset + held_of s) m)
    (told (gives (taken_of s n m)) (filled_by s (taken_of s n m)))
    (told (refused offset_too_high []) s)))
    (told (refused strange_state []) s)

-- the buffer after a piece is offered: the bytes buffered, the bytes taken, and the rest as it was; a refused piece writes nothing
unfoldable pub buffer_of : State → List ℕ → List ℕ → List ℕ
buffer_of s piece l =
    pick (fits s (length l))
    (pick s.closed l
    (pick (offset_fits (s.offset + held_of s) (length piece))
    ((buffered_of s l ++ take (taken_of s (length l) (length piece)) piece) ++ drop (held_of s + taken_of s (length l) (length piece)) l)
    l))
    l

-- ---- closing

abbrev pub shut_state : State → State
shut_state s = record { len = s.len; offset = s.offset; start = s.start; place = s.place; filled = s.filled; closed = true; blocks = s.blocks }

unfoldable pub close_of : State → ℕ → Told Done
close_of s n = pick (fits s n) (told (gives done) (shut_state s)) (told (refused strange_state []) s)

-- ---- next

-- a state with another offset, first byte, kept place and blocks
abbrev pub state_at : State → ℕ → ℕ → ℕ → Blocks → State
state_at s o start place b = record { len = s.len; offset = o; start = start; place = place; filled = s.filled; closed = s.closed; blocks = b }

-- if no token of the record is passed yet (the kept place is its first byte), separators are skipped: `;` and blanks
unfoldable pub skipped_of : State → List ℕ → State
skipped_of s l =
    pick (eqb s.place s.start)
    (state_at s (s.offset + separators (buffered_of s l)) (s.start + separators (buffered_of s l)) (s.start + separators (buffered_of s l)) s.blocks)
    s

-- then tokens are read from the kept place
abbrev pub read_of : Reader → State → List ℕ → Reached
read_of t s l = read_by t (buffered_of s l) (s.place - s.start) s.blocks

-- a record is marked control when its first byte is `<`, else row
abbrev pub mark_of : ℕ → Mark
mark_of b = pick (eqb b 0x3C) Control Row

-- neither a record nor 20: N bytes or more buffered, 22; closed with nothing buffered, End; closed, 21; more needed
abbrev pub wait_of : State → ℕ → Looked
wait_of s n =
    pick (leb s.len (held_of s)) (looked (refused record_too_long (s.offset ∷ s.len ∷ [])) n s)
    (pick s.closed
    (pick (eqb (held_of s) 0) (looked (gives ended) n s) (looked (refused cut_short (s.offset ∷ held_of s ∷ [])) n s))
    (looked more n s))

-- the first that holds: record; 20, with the inner number and its place from the record's first byte on; else the others
abbrev pub hand_out : Paper ℕ → State → Reached → List ℕ → Looked
hand_out (gives q) s r l =
    looked (gives (handed s.start q s.offset (mark_of (get_or l s.start 0)))) r.readings
    (state_at s (s.offset + q) (s.start + q) (s.start + q) r.blocks)
hand_out (refused n vs) s r l =
    looked (refused malformed_record (s.offset ∷ n ∷ vs)) r.readings (state_at s s.offset s.start (s.start + r.place) r.blocks)
hand_out more s r l = wait_of (state_at s s.offset s.start (s.start + r.place) r.blocks) r.readings

-- find, and then hand out
abbrev pub look_of : Reader → State → List ℕ → Looked
look_of t s l = hand_out (read_of t s l).answer s (read_of t s l) l

-- next over any token reader
unfoldable pub next_by : Reader → State → List ℕ → Looked
next_by t s l = pick (fits s (length l)) (look_of t (skipped_of s l) l) (looked (refused strange_state []) 0 s)

-- the records are binary
abbrev pub next_of : State → List ℕ → Looked
next_of s l = next_by binary s l

-- ---- what the private functions ask

-- what was read lies within the bytes buffered
pub record Within (s : State) (r : Reached) : Type 0 where
  pub to : r.place ≤ held_of s
  pub whole : (q : ℕ) → r.answer ≡ gives q → (0 < q) × (q ≤ held_of s)
