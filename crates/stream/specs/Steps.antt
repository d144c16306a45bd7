-- Each call of next reports its own number of readings: the steps between the places at entry and at exit, and the last step too where it
-- passed nothing.
use Rattle.std.specs.Prelude.{◌≡◌, ℕ, ◌+◌, ◌-◌, List}
use Rattle.refusal.specs.Paper.{pick}
use Rattle.blocks.specs.Readings.{Reader}
use Rattle.reader.specs.declared.State.{State}
use Rattle.reader.specs.Meaning.{Looked}
use Rattle.reader.specs.Calls.{buffered_of}
use Rattle.stream.specs.Tokens.{tokens_by, Between}
use Rattle.stream.specs.Drive.{left_of}

-- the tokens passed by a next that starts, behind the separators, in the state v, places counted from the record's first byte
abbrev pub passed_in : Reader → State → List ℕ → ℕ
passed_in t v l = tokens_by t (buffered_of v l) (v.place - v.start) v.blocks

-- from the state v behind the separators to what next gives, x
pub record Counts (t : Reader) (v : State) (l : List ℕ) (x : Looked) : Type 0 where
  -- the tokens passed are the steps from the place at entry to the place at exit
  pub between : Between t (buffered_of v l) (passed_in t v l) (v.place - v.start) v.blocks (x.state.place - v.start) x.state.blocks
  -- the readings are as many, and one where no record is handed out and a buffered byte is left unpassed
  pub counted : x.readings ≡ passed_in t v l + pick (left_of x.answer x.state) 1 0
