-- The open blocks as a state keeps them: one byte for each, the outermost first, and what is due in the innermost.
use Rattle.std.specs.Prelude.{ℕ, zero, suc, Bool, true, false, not, ◌&&◌, ◌||◌, List, [], ◌∷◌, eqb, ltb, leb, length, get_or, set, replicate}
use Rattle.refusal.specs.Paper.{pick}
use Rattle.automaton.specs.Limit.{most_open}
use Rattle.automaton.specs.Step.{Block, list, map, attributes, value, object, item, key, equals}
use Rattle.automaton.specs.Step as automaton
use Rattle.kept.specs.declared.Blocks.{Blocks}
use Rattle.kept.specs.declared.Due.{Due}
use Rattle.kept.specs.declared.Due.TheVariants.{Value, Object, Item, Key, Equals}

-- the bytes of the three kinds of block; no other byte is one
abbrev pub list_byte : ℕ
list_byte = 1

abbrev pub map_byte : ℕ
map_byte = 2

abbrev pub attributes_byte : ℕ
attributes_byte = 3

unfoldable pub block_of : ℕ → Block
block_of k = pick (eqb k list_byte) list (pick (eqb k map_byte) map attributes)

unfoldable pub byte_of : Block → ℕ
byte_of list = list_byte
byte_of map = map_byte
byte_of attributes = attributes_byte

-- the part that is due, as the automaton names it, and back
abbrev pub due_of : Due → automaton.Due
due_of Value = value
due_of Object = object
due_of Item = item
due_of Key = key
due_of Equals = equals

abbrev pub kept_due : automaton.Due → Due
kept_due value = Value
kept_due object = Object
kept_due item = Item
kept_due key = Key
kept_due equals = Equals

-- the first n blocks of the bytes, the innermost first
unfoldable pub open_in : ℕ → List ℕ → List Block
open_in zero kinds = []
open_in (suc n) kinds = block_of (get_or kinds n 0) ∷ open_in n kinds

-- the open blocks, innermost first
abbrev pub blocks_of : Blocks → List Block
blocks_of b = open_in b.depth b.kinds

-- the blocks around the innermost
abbrev pub around : List Block → List Block
around [] = []
around (x ∷ K) = K

-- no block is open, and a value is due
unfoldable pub no_blocks : Blocks
no_blocks = record { depth = 0; due = Value; kinds = replicate most_open 0 }

-- the byte of the innermost block
unfoldable pub innermost : List Block → ℕ
innermost [] = 0
innermost (x ∷ K) = byte_of x

-- a token that leaves the blocks K open has opened one
abbrev pub opens_one : Blocks → List Block → Bool
opens_one b K = ltb b.depth (length K)

-- the bytes behind it: a block that it opened has its byte behind the others, and no other byte changes
unfoldable pub kinds_then : Blocks → List Block → List ℕ
kinds_then b K = pick (opens_one b K) (set b.kinds b.depth (innermost K)) b.kinds

-- the open blocks behind a token that leaves the blocks K open and the part d due
abbrev pub blocks_then : Blocks → List Block → automaton.Due → Blocks
blocks_then b K d = record { depth = length K; due = kept_due d; kinds = kinds_then b K }

-- the byte of a list, a map or an attribute block
unfoldable pub kind_known : ℕ → Bool
kind_known k = eqb k list_byte || eqb k map_byte || eqb k attributes_byte

-- the kind of each of the first n blocks is known
unfoldable pub kinds_known : ℕ → List ℕ → Bool
kinds_known zero kinds = true
kinds_known (suc n) kinds = kind_known (get_or kinds n 0) && kinds_known n kinds

-- the innermost block is a list
abbrev pub in_list : List Block → Bool
in_list [] = false
in_list (list ∷ K) = true
in_list (map ∷ K) = false
in_list (attributes ∷ K) = false

-- it is a map or an attribute block
abbrev pub in_pairs : List Block → Bool
in_pairs [] = false
in_pairs (list ∷ K) = false
in_pairs (map ∷ K) = true
in_pairs (attributes ∷ K) = true

-- what the innermost block, or none, takes: a list items, a map or an attribute block keys and `=`; a value that is no item stands in no
-- list; and behind its attributes any value goes on
unfoldable pub takes : List Block → automaton.Due → Bool
takes K value = not (in_list K)
takes K object = true
takes K item = in_list K
takes K key = in_pairs K
takes K equals = in_pairs K

-- ---- 28's tests of the open blocks

-- at most 128 blocks are open
abbrev pub depth_within : Blocks → Bool
depth_within b = leb b.depth most_open

-- at most as many as bytes are passed
abbrev pub depth_within_passed : Blocks → ℕ → Bool
depth_within_passed b passed = leb b.depth passed

-- the innermost block, or none, takes the part that is due
abbrev pub due_fits : Blocks → Bool
due_fits b = takes (blocks_of b) (due_of b.due)

-- blocks that can be open behind so many bytes of a record
unfoldable pub blocks_fit : Blocks → ℕ → Bool
blocks_fit b passed = depth_within b && depth_within_passed b passed && kinds_known b.depth b.kinds && due_fits b
