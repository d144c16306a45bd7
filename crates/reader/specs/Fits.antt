-- Whether state and buffer belong together: refusal 28 where they do not. Each test is one of document 01's list.
use Rattle.std.specs.Prelude.{ℕ, ◌+◌, ◌-◌, ◌≤◌, ◌≡◌, Bool, ◌&&◌}
use Rattle.automaton.specs.Limit.{most_open}
use Rattle.places.specs.Places.{least_buffer, most_buffer, most_offset, places_fit, offset_fits}
use Rattle.kept.specs.Kept.{blocks_fit}
use Rattle.reader.specs.declared.State.{State}

-- how many bytes are buffered: those taken and neither handed out nor skipped
abbrev pub held_of : State → ℕ
held_of s = s.filled - s.start

-- the lengths agree and lie in 23's range, and the places lie in order
abbrev pub places_agree : State → ℕ → Bool
places_agree s n = places_fit s.len s.start s.place s.filled n

-- the stream offset behind the last byte taken fits
abbrev pub offset_agrees : State → Bool
offset_agrees s = offset_fits s.offset (held_of s)

-- the open blocks: at most 128, at most as many as bytes passed, each of a kind that there is, and the innermost, or none, takes the
-- part that is due
abbrev pub blocks_agree : State → Bool
blocks_agree s = blocks_fit s.blocks (s.place - s.start)

-- a state and a buffer of n bytes belong together
unfoldable pub fits : State → ℕ → Bool
fits s n = places_agree s n && offset_agrees s && blocks_agree s

-- the tests on numbers, as facts
pub record Fitting (s : State) (n : ℕ) : Type 0 where
  pub len : s.len ≡ n
  pub low : least_buffer ≤ n
  pub high : n ≤ most_buffer
  pub order : s.start ≤ s.place
  pub passed : s.place ≤ s.filled
  pub within : s.filled ≤ n
  pub sum : s.offset + (s.filled - s.start) ≤ most_offset
  pub depth : s.blocks.depth ≤ most_open
