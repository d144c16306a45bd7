-- Where a scan that finds no value stops. Both definitions go by the tokens that are passed from the first byte on, in reading order, each
-- of them due where it stands; every token but the last one read is passed.
use Rattle.std.specs.Prelude.{◌≡◌, ℕ, List, []}
use Rattle.refusal.specs.Paper.{more, refused}
use Rattle.refusal.specs.declared.Format.{Format}
use Rattle.lexer.specs.Lexer.{kind_at}
use Rattle.automaton.specs.Step.{Block, Due, value}
use Rattle.scan.specs.Stops.{Passed}
use Rattle.scan.specs.Stops.{Stop}

-- the bytes ended inside a value: from the first byte, where a value is due, tokens are passed to a place at which one more is due, and
-- the bytes end before it or inside it
pub record EndedInside (f : Format) (s : List ℕ) : Type 0 where
  pub count : ℕ
  pub place : ℕ
  pub blocks : List Block
  pub due : Due
  pub passed : Passed f s count 0 [] value place blocks due
  pub ended : kind_at f s place ≡ more

-- the first wrong token in reading order: tokens are passed to one that is refused by the number m with the values vs, because it is no
-- token, or is wrong for its place, or opens a block too many
pub record FirstWrong (f : Format) (s : List ℕ) (m : ℕ) (vs : List ℕ) : Type 0 where
  pub count : ℕ
  pub place : ℕ
  pub blocks : List Block
  pub due : Due
  pub passed : Passed f s count 0 [] value place blocks due
  pub wrong : Stop f s place blocks due (refused m vs)
