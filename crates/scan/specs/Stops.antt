-- How a run stops: some tokens are passed, and the next one is where the answer comes from.
use Rattle.std.specs.Prelude.{◌≡◌, ℕ, zero, suc, List, [], ◌∷◌}
use Rattle.refusal.specs.Numbers.{too_deep}
use Rattle.refusal.specs.Paper.{Paper, gives, more, refused, spot}
use Rattle.refusal.specs.declared.Format.{Format}
use Rattle.token.specs.declared.Kind.{Kind}
use Rattle.lexer.specs.Lexer.{kind_at}
use Rattle.automaton.specs.Step.{Block, Due, go, finished, wrong, deep, step}

-- c tokens are passed, from a place with some blocks open and something due to another
pub data Passed (f : Format) (s : List ℕ) : ℕ → ℕ → List Block → Due → ℕ → List Block → Due → Type 0 where
  -- no token: the same place, blocks and due
  none : {p : ℕ} {K : List Block} {d : Due} → Passed f s zero p K d p K d
  -- a token that is due, and then c more from the place after it
  passes : {c p a q z : ℕ} {k : Kind} {K L M : List Block} {d e u : Due} → kind_at f s p ≡ gives (spot k a q) → step d K k ≡ go L e → Passed f s c q L e z M u → Passed f s (suc c) p K d z M u

-- the answer that comes of the token at a place, with some blocks open and something due there, where no token is passed
pub data Stop (f : Format) (s : List ℕ) : ℕ → List Block → Due → Paper ℕ → Type 0 where
  -- the bytes ended before a token or inside it
  ran_out : {p : ℕ} {K : List Block} {d : Due} → kind_at f s p ≡ more → Stop f s p K d more
  -- what stands there is no token, and is refused as the token reader says
  bad_token : {p m : ℕ} {vs : List ℕ} {K : List Block} {d : Due} → kind_at f s p ≡ refused m vs → Stop f s p K d (refused m vs)
  -- a token is wrong for its place: 10, 11 or 12, with the place just after that token
  misplaced : {p a n w : ℕ} {k : Kind} {K : List Block} {d : Due} → kind_at f s p ≡ gives (spot k a n) → step d K k ≡ wrong w → Stop f s p K d (refused w (n ∷ []))
  -- a block would be one too many: 13, with the place of the token's first byte
  too_many : {p a n : ℕ} {k : Kind} {K : List Block} {d : Due} → kind_at f s p ≡ gives (spot k a n) → step d K k ≡ deep → Stop f s p K d (refused too_deep (a ∷ []))
  -- the value is whole, and ends where the token ends
  last_token : {p a n : ℕ} {k : Kind} {K : List Block} {d : Due} → kind_at f s p ≡ gives (spot k a n) → step d K k ≡ finished → Stop f s p K d (gives n)

-- the run from a place comes to its answer: how many tokens are passed, where that ends, and the token there
pub record Stops (f : Format) (s : List ℕ) (p : ℕ) (K : List Block) (d : Due) (r : Paper ℕ) : Type 0 where
  pub count : ℕ
  pub place : ℕ
  pub blocks : List Block
  pub due : Due
  pub passed : Passed f s count p K d place blocks due
  pub stop : Stop f s place blocks due r
