-- What the private functions of the scan say. Each answers for a part of a value, in every stack of open blocks that may stand around
-- it: the run that starts before the part is the run that goes on behind it.
use Rattle.std.specs.Prelude.{◌≡◌, ℕ, suc, ◌≤◌, Bool, true, false, List, [], ◌∷◌, length, Option, Some, None}
use Rattle.refusal.specs.Numbers.{too_deep}
use Rattle.refusal.specs.Paper.{Paper, gives, more, refused, Spot, spot}
use Rattle.refusal.specs.Meaning.{unwhole_meaning}
use Rattle.refusal.specs.declared.Format.{Format}
use Rattle.refusal.specs.declared.Unwhole.{Unwhole}
use Rattle.token.specs.declared.Kind.{Kind}
use Rattle.automaton.specs.Step.{Block, list, map, attributes, Due, value, object, item, key, equals, Step, after, closed}
use Rattle.scan.specs.Walk.{walk, arrive}

-- the answer of an end; where there is none the part is not whole, and w says why
abbrev pub answer_of : Option ℕ → Unwhole → Paper ℕ
answer_of (Some q) w = gives q
answer_of None w = unwhole_meaning w

-- why a part stops at a token that is not due, or not whole
unfoldable pub why_of : ℕ → Paper (Spot Kind) → Paper ℕ
why_of wrong (gives (spot k first next)) = refused wrong (next ∷ [])
why_of wrong more = more
why_of wrong (refused n vs) = refused n vs

-- the run goes on from a part's answer
unfoldable pub resume : Format → List ℕ → Step → Paper ℕ → Paper ℕ
resume f s t (gives q) = arrive (walk f s) q q t
resume f s t more = more
resume f s t (refused n vs) = refused n vs

-- a whole part ends at the place p or behind it, and in the bytes; a refusal is one of those that have a name
unfoldable pub Past : List ℕ → ℕ → Paper ℕ → Type 0
Past s p (gives q) = (p ≤ q) × (q ≤ length s)
Past s p more = Unit {0}
Past s p (refused n vs) = n ≤ too_deep

-- r is a part's answer: in each stack K of which Q holds, the run that starts before the part is the run that goes on after it
pub record Part (f : Format) (s : List ℕ) (p : ℕ) (Q : List Block → Type 0) (start : List Block → Paper ℕ) (rest : List Block → Step) (r : Paper ℕ) : Type 0 where
  pub runs : (K : List Block) → Q K → start K ≡ resume f s (rest K) r
  pub past : Past s p r

-- a value, with depth blocks open around it
abbrev pub Tree : Format → List ℕ → ℕ → ℕ → Paper ℕ → Type 0
Tree f s at depth r = Part f s (suc at) (λ K. length K ≡ depth) (λ K. walk f s at K value) after r

-- what is due before a value's attributes, and behind them
abbrev pub due_of : Bool → Due
due_of true = object
due_of false = value

-- a value whose first token stands at the place; where b, behind its attributes
abbrev pub Begun : Format → List ℕ → ℕ → ℕ → Bool → Paper ℕ → Type 0
Begun f s p depth b r = Part f s (suc p) (λ K. length K ≡ depth) (λ K. walk f s p K (due_of b)) after r

-- the rest of an attribute block, and the value behind it
abbrev pub Attributed : Format → List ℕ → ℕ → ℕ → Paper ℕ → Type 0
Attributed f s at depth r = Part f s (suc at) (λ K. length K ≡ depth) (λ K. walk f s at (attributes ∷ K) key) after r

-- `=` and a value
abbrev pub Pair : Format → List ℕ → ℕ → ℕ → Paper ℕ → Type 0
Pair f s at depth r = Part f s (suc at) (λ K. length K ≡ depth) (λ K. walk f s at K equals) after r

-- the rest of a list, the innermost of depth blocks
abbrev pub Items : Format → List ℕ → ℕ → ℕ → Paper ℕ → Type 0
Items f s at depth r = Part f s (suc at) (λ K. suc (length K) ≡ depth) (λ K. walk f s at (list ∷ K) item) (closed list) r

-- a block of pairs: attributes, or a map
abbrev pub block_of : Bool → Block
block_of true = attributes
block_of false = map

-- the rest of a map or an attribute block
abbrev pub Pairs : Format → List ℕ → ℕ → ℕ → Bool → Paper ℕ → Type 0
Pairs f s at depth b r = Part f s (suc at) (λ K. suc (length K) ≡ depth) (λ K. walk f s at (block_of b ∷ K) key) (closed (block_of b)) r

-- from the one place to the other there are whole pairs: in a block of pairs the run goes on behind them
abbrev pub Along : Format → List ℕ → ℕ → ℕ → Type 0
Along f s at q = (at ≤ q) × ((b : Bool) (K : List Block) → walk f s at (block_of b ∷ K) key ≡ walk f s q (block_of b ∷ K) key)
