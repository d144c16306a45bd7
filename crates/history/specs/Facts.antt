-- What the theorems about the calls speak of: facts asked of a state, and what a call leaves.
use Rattle.std.specs.Prelude.{◌≡◌, ℕ, ◌+◌, ◌-◌, ◌≤◌, ◌<◌, List, [], ltb, length}
use Rattle.refusal.specs.Numbers.{strange_state}
use Rattle.refusal.specs.Paper.{Paper, gives, more, refused, pick}
use Rattle.automaton.specs.Limit.{most_open}
use Rattle.kept.specs.declared.Blocks.{Blocks}
use Rattle.kept.specs.Kept.{no_blocks}
use Rattle.blocks.specs.Readings.{Reader}
use Rattle.reader.specs.declared.State.{State}
use Rattle.reader.specs.Meaning.{Handed, handed, ended, told, looked}
use Rattle.reader.specs.Calls.{offer_of, buffer_of, close_of, state_at, skipped_of, read_of, next_by}

-- the array of the blocks' kinds has its 128 bytes, as every value of the code's type has
abbrev pub Slotted : Blocks → Type 0
Slotted b = length b.kinds ≡ most_open

-- one reading where a byte is left unpassed, else none
abbrev pub unpassed : State → ℕ
unpassed s = pick (ltb s.place s.filled) 1 0

-- the answer is a record
abbrev pub HandsOut : Paper Handed → Type 0
HandsOut (gives (handed p n o m)) = Unit {0}
HandsOut (gives ended) = ⊥
HandsOut more = ⊥
HandsOut (refused n vs) = ⊥

-- the state that next leaves where it hands out no record: the separators are skipped, and the place is the end of the last token passed
abbrev pub progress_of : Reader → State → List ℕ → State
progress_of t s l = state_at (skipped_of s l) (skipped_of s l).offset (skipped_of s l).start ((skipped_of s l).start + (read_of t (skipped_of s l) l).place) (read_of t (skipped_of s l) l).blocks

-- from s to u a call of next went on: the first byte is the same or behind, the offset moved as far, the place is the same or behind,
-- and the filled length, the buffer's length and whether the stream is closed are as they were
pub record Progress (s u : State) : Type 0 where
  pub from : s.start ≤ u.start
  pub offset : u.offset ≡ s.offset + (u.start - s.start)
  pub place : s.place ≤ u.place
  pub filled : u.filled ≡ s.filled
  pub len : u.len ≡ s.len
  pub closed : u.closed ≡ s.closed

-- a record of n bytes at the place p and the stream offset o was handed out, and u is left: the first byte and the place are behind the
-- record, so is the offset, and no block is open
pub record HandedOut (p n o : ℕ) (u : State) : Type 0 where
  pub some : 0 < n
  pub start : u.start ≡ p + n
  pub place : u.place ≡ p + n
  pub offset : u.offset ≡ o + n
  pub blocks : u.blocks ≡ no_blocks
  pub within : p + n ≤ u.filled

-- every call refuses the state 28, hands it back and writes nothing; next makes no readings
abbrev pub Strange : Reader → List ℕ → List ℕ → State → Type 0
Strange t l piece s =
    (offer_of s (length l) (length piece) ≡ told (refused strange_state []) s) × (buffer_of s piece l ≡ l)
    × (next_by t s l ≡ looked (refused strange_state []) 0 s) × (close_of s (length l) ≡ told (refused strange_state []) s)
