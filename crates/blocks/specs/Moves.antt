-- What the private functions of this crate say: a token's kind by its first byte, and what a token does to the open blocks.
use Rattle.std.specs.Prelude.{ℕ, Bool, true, false, List, [], ◌∷◌, eqb, Result, Ok, Err, Option, Some, None}
use Rattle.refusal.specs.Numbers.{not_value, not_key, not_equals, too_deep}
use Rattle.refusal.specs.Paper.{pick}
use Rattle.refusal.specs.Meaning.{why_number, why_of, refusal_at}
use Rattle.refusal.specs.declared.Refusal.{Refusal}
use Rattle.refusal.specs.declared.Why.{Why}
use Rattle.refusal.specs.declared.Why.TheVariants.{TooDeep}
use Rattle.token.specs.declared.Kind.{Kind}
use Rattle.token.specs.declared.Kind.TheVariants as kind
use Rattle.automaton.specs.Step as automaton
use Rattle.automaton.specs.Step.{list, map, attributes, value, object, item, key, equals, Step, go, finished, wrong, deep, step}
use Rattle.kept.specs.declared.Blocks.{Blocks}
use Rattle.kept.specs.declared.Due.{Due}
use Rattle.kept.specs.declared.Due.TheVariants.{Item, Key}
use Rattle.kept.specs.Kept.{list_byte, map_byte, attributes_byte, blocks_then, no_blocks}
use Rattle.blocks.specs.declared.Block.{Block}
use Rattle.blocks.specs.declared.Block.TheVariants.{List as ListBlock, Map, Attributes}

-- the kind of a whole binary token, by its first byte
unfoldable pub kind_by : ℕ → Kind
kind_by b =
    pick (eqb b 0x5B) kind.OpenList
    (pick (eqb b 0x5D) kind.CloseList
    (pick (eqb b 0x7B) kind.OpenMap
    (pick (eqb b 0x7D) kind.CloseMap
    (pick (eqb b 0x3C) kind.OpenAttributes
    (pick (eqb b 0x3E) kind.CloseAttributes
    (pick (eqb b 0x3D) kind.Equals
    (pick (eqb b 0x3B) kind.Semicolon
    (pick (eqb b 0x01) kind.Text kind.Scalar))))))))

-- a value is due, with attributes or without
abbrev pub value_due : automaton.Due → Bool
value_due value = true
value_due object = true
value_due item = true
value_due key = false
value_due equals = false

-- the number of the refusal of a token that is wrong where this is due
abbrev pub wrong_by : automaton.Due → ℕ
wrong_by value = not_value
wrong_by object = not_value
wrong_by item = not_value
wrong_by key = not_key
wrong_by equals = not_equals

-- what comes of a token, and the open blocks behind it: whether the record is whole, or why the token is refused
pub record Turn : Type 0 where
  pub answer : Result Bool Why
  pub blocks : Blocks

abbrev pub turned : Result Bool Why → Blocks → Turn
turned a b = record { answer = a; blocks = b }

-- the same by the automaton's step in the blocks b
unfoldable pub turn_of : Blocks → Step → Turn
turn_of b (go K d) = turned (Ok false) (blocks_then b K d)
turn_of b finished = turned (Ok true) no_blocks
turn_of b (wrong m) = turned (Err (why_of m)) b
turn_of b deep = turned (Err TooDeep) b

-- a kind of block, as the automaton names it
abbrev pub block_named : Block → automaton.Block
block_named ListBlock = list
block_named Map = map
block_named Attributes = attributes

abbrev pub kind_byte : Block → ℕ
kind_byte ListBlock = list_byte
kind_byte Map = map_byte
kind_byte Attributes = attributes_byte

abbrev pub due_in : Block → Due
due_in ListBlock = Item
due_in Map = Key
due_in Attributes = Key

abbrev pub closing : Block → Kind
closing ListBlock = kind.CloseList
closing Map = kind.CloseMap
closing Attributes = kind.CloseAttributes

-- the innermost block
abbrev pub innermost_of : List automaton.Block → Option Block
innermost_of [] = None
innermost_of (list ∷ K) = Some ListBlock
innermost_of (map ∷ K) = Some Map
innermost_of (attributes ∷ K) = Some Attributes

-- the refusal of a token from p to q: a block too many is refused at its first byte, a token that is wrong for its place just behind it
abbrev pub refused_at : Why → ℕ → ℕ → Refusal
refused_at w p q = refusal_at w (pick (eqb (why_number w) too_deep) p q)
