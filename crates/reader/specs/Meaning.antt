-- What the answers of the calls mean: this paper's number and values for each case.
use Rattle.std.specs.Prelude.{ℕ, [], ◌∷◌, Result, Ok, Err}
use Rattle.refusal.specs.Numbers.{malformed_record, cut_short, record_too_long, buffer_length, after_closing, offset_too_high, strange_state}
use Rattle.refusal.specs.Paper.{Paper, gives, more, refused}
use Rattle.refusal.specs.Meaning.{number_of, place_of}
use Rattle.reader.specs.declared.State.{State}
use Rattle.reader.specs.declared.Mark.{Mark}
use Rattle.reader.specs.declared.BufferLength.{BufferLength}
use Rattle.reader.specs.declared.Opened.{Opened}
use Rattle.reader.specs.declared.NotTaken.{NotTaken}
use Rattle.reader.specs.declared.NotTaken.TheVariants as not_taken
use Rattle.reader.specs.declared.StrangeState.{StrangeState}
use Rattle.reader.specs.declared.Found.{Found}
use Rattle.reader.specs.declared.Found.TheVariants as found
use Rattle.reader.specs.declared.Stopped.{Stopped}
use Rattle.reader.specs.declared.Stopped.TheVariants as stopped
use Rattle.reader.specs.declared.Next.{Next}

-- an accepted call that gives nothing but its state
pub data Done : Type 0 where
  done : Done

-- a record as place, length, offset and mark; or the stream's end
pub data Handed : Type 0 where
  handed : ℕ → ℕ → ℕ → Mark → Handed
  ended : Handed

-- an answer and the state after it
pub record Told (A : Type 0) : Type 0 where
  pub answer : Paper A
  pub state : State

-- the same of next, with its number of readings
pub record Looked : Type 0 where
  pub answer : Paper Handed
  pub readings : ℕ
  pub state : State

abbrev pub told : {A : Type 0} → Paper A → State → Told A
told a s = record { answer = a; state = s }

abbrev pub looked : Paper Handed → ℕ → State → Looked
looked a n s = record { answer = a; readings = n; state = s }

abbrev pub opening_meaning : Result (Unit {0}) BufferLength → Paper Done
opening_meaning (Ok _) = gives done
opening_meaning (Err _) = refused buffer_length []

abbrev pub taking_meaning : Result ℕ NotTaken → Paper ℕ
taking_meaning (Ok n) = gives n
taking_meaning (Err not_taken.StrangeState) = refused strange_state []
taking_meaning (Err not_taken.AfterClosing) = refused after_closing []
taking_meaning (Err not_taken.OffsetTooHigh) = refused offset_too_high []

abbrev pub closing_meaning : Result (Unit {0}) StrangeState → Paper Done
closing_meaning (Ok _) = gives done
closing_meaning (Err _) = refused strange_state []

-- 20 carries the offset of the record and the inner number and place, 21 the offset and the bytes buffered, 22 the offset and N
abbrev pub found_meaning : Result Found Stopped → Paper Handed
found_meaning (Ok (found.Record p n o m)) = gives (handed p n o m)
found_meaning (Ok found.End) = gives ended
found_meaning (Ok found.More) = more
found_meaning (Err (stopped.Malformed o r)) = refused malformed_record (o ∷ number_of r ∷ place_of r ∷ [])
found_meaning (Err (stopped.CutShort o h)) = refused cut_short (o ∷ h ∷ [])
found_meaning (Err (stopped.TooLong o n)) = refused record_too_long (o ∷ n ∷ [])
found_meaning (Err stopped.StrangeState) = refused strange_state []

abbrev pub opened_meaning : Opened → Told Done
opened_meaning r = told (opening_meaning r.answer) r.state

abbrev pub offered_meaning : Result ℕ NotTaken → State → Told ℕ
offered_meaning r s = told (taking_meaning r) s

abbrev pub closed_meaning : Result (Unit {0}) StrangeState → State → Told Done
closed_meaning r s = told (closing_meaning r) s

abbrev pub next_meaning : Next → State → Looked
next_meaning r s = looked (found_meaning r.answer) r.readings s
