-- How many tokens are passed, by the automaton's step alone: a token that ends the record is passed, and an unfinished, refused or
-- misplaced one is not.
use Rattle.std.specs.Prelude.{◌≡◌, ℕ, zero, suc, ◌+◌, List, ltb, length, take}
use Rattle.refusal.specs.Paper.{Paper, gives, more, refused, Spot, spot, pick}
use Rattle.token.specs.declared.Kind.{Kind}
use Rattle.automaton.specs.Step.{Block, Due, Step, go, finished, wrong, deep, step}
use Rattle.kept.specs.declared.Blocks.{Blocks}
use Rattle.kept.specs.Kept.{due_of, blocks_of, blocks_then, no_blocks}
use Rattle.blocks.specs.Readings.{Reader, read_by}
use Rattle.stream.specs.Whole.{streamed}

-- behind a token that ends at next: it is passed where the automaton goes on or the record is whole
unfoldable pub step_passes : (ℕ → Blocks → ℕ) → ℕ → Blocks → Step → ℕ
step_passes k next b (go K d) = suc (k next (blocks_then b K d))
step_passes k next b finished = 1
step_passes k next b (wrong m) = 0
step_passes k next b deep = 0

-- the token at a place: one that is not whole is not passed
unfoldable pub token_passes : (ℕ → Blocks → ℕ) → Blocks → Paper (Spot Kind) → ℕ
token_passes k b (gives (spot x first next)) = step_passes k next b (step (due_of b.due) (blocks_of b) x)
token_passes k b more = 0
token_passes k b (refused m vs) = 0

unfoldable pub tokens_for : Reader → List ℕ → ℕ → ℕ → Blocks → ℕ
tokens_for t s zero p b = 0
tokens_for t s (suc f) p b = pick (ltb p (length s)) (token_passes (tokens_for t s f) b (t s p)) 0

-- the tokens passed of the bytes s of a record from the place p on, with the blocks b open; each takes a byte at least
unfoldable pub tokens_by : Reader → List ℕ → ℕ → Blocks → ℕ
tokens_by t s p b = tokens_for t s (suc (length s)) p b

-- the tokens behind a record, where there is one
abbrev pub further : Paper ℕ → (ℕ → ℕ) → ℕ
further (gives q) on = on q
further more on = 0
further (refused m vs) on = 0

-- the tokens passed of a rest R with a buffer of n bytes, and those behind it
abbrev pub rest_tokens : Reader → ℕ → List ℕ → (ℕ → ℕ) → ℕ
rest_tokens t n R on = tokens_by t (take n R) 0 no_blocks + further (read_by t (take n R) 0 no_blocks).answer on

-- the tokens passed over the whole stream R with a buffer of n bytes: those of each record, and those passed of a last one that is none;
-- offsets do not matter
abbrev pub whole_tokens : Reader → ℕ → List ℕ → ℕ
whole_tokens t n R = streamed 0 (λ R o on. rest_tokens t n R on) R 0 0

-- c tokens are passed from a place with some blocks open to another place: the steps between the two
pub data Between (t : Reader) (s : List ℕ) : ℕ → ℕ → Blocks → ℕ → Blocks → Type 0 where
  -- no token: the same place and blocks
  nothing : {p : ℕ} {b : Blocks} → Between t s 0 p b p b
  -- a token that is due, and then c more from the place after it
  one_passed : {c p a q z : ℕ} {x : Kind} {K : List Block} {d : Due} {b b' : Blocks} → t s p ≡ gives (spot x a q) → step (due_of b.due) (blocks_of b) x ≡ go K d
      → Between t s c q (blocks_then b K d) z b' → Between t s (suc c) p b z b'
  -- the token that ends the record
  record_ended : {p a q : ℕ} {x : Kind} {b : Blocks} → t s p ≡ gives (spot x a q) → step (due_of b.due) (blocks_of b) x ≡ finished → Between t s 1 p b q no_blocks
