-- The tokens of a record, read from a kept place on. Each reading is one step of the automaton that scans a value: it passes a token,
-- finds it unfinished, or refuses it; a token that is wrong for its place is refused and is not passed. No reading is made at the end of
-- the bytes. The readings are bounded only so that they are seen to end; the law `read_turn` (proofs/Laws) is all that anything else sees of that.
use Rattle.std.specs.Prelude.{◌≡◌, ℕ, zero, suc, ◌+◌, ◌<◌, ◌≤◌, List, [], ◌∷◌, ltb, length, Result, Ok, Err}
use Rattle.refusal.specs.Numbers.{too_deep}
use Rattle.refusal.specs.Paper.{Paper, gives, more, refused, Spot, spot, pick}
use Rattle.refusal.specs.Meaning.{unwhole_meaning}
use Rattle.refusal.specs.declared.Unwhole.{Unwhole}
use Rattle.refusal.specs.declared.Format.TheVariants.{Binary}
use Rattle.token.specs.declared.Kind.{Kind}
use Rattle.lexer.specs.Lexer.{kind_at}
use Rattle.automaton.specs.Limit.{most_open}
use Rattle.automaton.specs.Step.{Step, go, finished, wrong, deep, step}
use Rattle.kept.specs.declared.Blocks.{Blocks}
use Rattle.blocks.specs.declared.Passed.{Passed}
use Rattle.blocks.specs.declared.Run.{Run}
use Rattle.kept.specs.Kept.{due_of, blocks_of, blocks_then, no_blocks}

-- where readings stop: the end of the last token passed, how many readings were made, the open blocks there, and the answer: where the
-- record ends, more bytes are needed, or a refusal with its place
pub record Reached : Type 0 where
  pub place : ℕ
  pub readings : ℕ
  pub blocks : Blocks
  pub answer : Paper ℕ

abbrev pub reached : ℕ → ℕ → Blocks → Paper ℕ → Reached
reached p n b a = record { place = p; readings = n; blocks = b; answer = a }

-- a token reader: what stands at a place of some bytes, as the automaton sees it. The readings are defined over any; a stream of records
-- is read with that of binary
abbrev pub Reader : Type 0
Reader = List ℕ → ℕ → Paper (Spot Kind)

-- a token takes a byte at least, and none that is not there
abbrev pub Grows : Reader → Type 0
Grows t = (s : List ℕ) (p : ℕ) (k : Kind) (a n : ℕ) → t s p ≡ gives (spot k a n) → (p < n) × (n ≤ length s)

-- how the readings go on, from a place, the open blocks there and the readings made
abbrev pub Onward : Type 0
Onward = ℕ → Blocks → ℕ → Reached

-- behind the token at p, from first to next, the n-th that is read: the readings go on, the record is whole and no block stays open,
-- the token is refused with the place just after it (10 to 12), or a block would be one too many, refused at the token's first byte (13)
unfoldable pub on_step : Onward → ℕ → ℕ → ℕ → Blocks → ℕ → Step → Reached
on_step k first next p b n (go K d) = k next (blocks_then b K d) n
on_step k first next p b n finished = reached next n no_blocks (gives next)
on_step k first next p b n (wrong m) = reached p n b (refused m (next ∷ []))
on_step k first next p b n deep = reached p n b (refused too_deep (first ∷ []))

-- one reading: a whole token takes its step; an unfinished one and a refused one leave the place and the blocks as they were
unfoldable pub on_token : Onward → ℕ → Blocks → ℕ → Paper (Spot Kind) → Reached
on_token k p b n (gives (spot t first next)) = on_step k first next p b n (step (due_of b.due) (blocks_of b) t)
on_token k p b n more = reached p n b more
on_token k p b n (refused m vs) = reached p n b (refused m vs)

unfoldable pub read_for : Reader → List ℕ → ℕ → Onward
read_for t s zero p b n = reached p n b more
read_for t s (suc f) p b n = pick (ltb p (length s)) (on_token (read_for t s f) p b (n + 1) (t s p)) (reached p n b more)

-- each token takes a byte at least, so that as many steps as there are bytes, and one, are enough
unfoldable pub read_on : Reader → List ℕ → Onward
read_on t s = read_for t s (suc (length s))

-- the bytes s of a record, read from the place p on with the blocks b open
abbrev pub read_by : Reader → List ℕ → ℕ → Blocks → Reached
read_by t s p b = read_on t s p b 0

-- the same in binary
abbrev pub binary : Reader
binary = kind_at Binary

abbrev pub read_from : List ℕ → ℕ → Blocks → Reached
read_from s p b = read_by binary s p b

-- the same for a caller's blocks: of more than may be open nothing is read
unfoldable pub pass_of : List ℕ → ℕ → Blocks → Reached
pass_of s p b = pick (ltb most_open b.depth) (reached p 0 b more) (read_from s p b)

-- what the answer of the code means
abbrev pub what_meaning : Result ℕ Unwhole → Paper ℕ
what_meaning (Ok n) = gives n
what_meaning (Err e) = unwhole_meaning e

abbrev pub run_meaning : Run → Blocks → Reached
run_meaning r b = reached r.place r.readings b (what_meaning r.what)

-- a token that is not whole: the answer is the reader's own, more or its refusal
abbrev pub not_whole : Paper (Spot Kind) → Paper ℕ → Type 0
not_whole (gives x) a = Unit {0}
not_whole more a = a ≡ more
not_whole (refused n vs) a = a ≡ refused n vs

-- how the readings go on from the n-th, at p, by what came of it and the open blocks then: behind the token, unless the record ends there
abbrev pub read_then : Onward → ℕ → ℕ → Result Passed Unwhole → Blocks → Reached
read_then k p n (Ok t) b = pick t.whole (reached t.end n b (gives t.end)) (k t.end b n)
read_then k p n (Err e) b = reached p n b (unwhole_meaning e)
