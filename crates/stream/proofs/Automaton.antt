-- What a token does to the open blocks: one more, one fewer or as many, and the innermost takes what is due then. Assumes nothing.
use mathlib.Core.Path.{◌≡◌, refl}
use mathlib.Core.Bool.{true}
use mathlib.Core.List.{List, [], ◌∷◌}
use Prim.Native.Nat.{ℕ, ◌<◌}
use lib.Dec.{ltb}
use lib.ListN.{length}
use borrow.Author.Tests.{ltb-true}
use Rattle.token.specs.declared.Kind.{Kind}
use Rattle.token.specs.declared.Kind.TheVariants.{Text, Scalar, OpenList, CloseList, OpenMap, CloseMap, OpenAttributes, CloseAttributes, Equals, Semicolon}
use Rattle.automaton.specs.Limit.{most_open}
use Rattle.automaton.specs.Step.{Block, list, map, attributes, Due, value, object, item, key, equals, Step, go, finished, wrong, deep, after, closed, opened, on_object, on_value, on_item, on_key, on_equals, end_list, end_map, end_attributes, step}
use Rattle.kept.specs.Kept.{takes}
use Rattle.blocks.proofs.Firsts.{pick_case}

-- what a token does to the blocks K: one more is open, one fewer, or as many; and the innermost takes what is due then
pub data Turn (K : List Block) : Step → Type 0 where
  one_more : {x : Block} {d : Due} → length K < most_open → takes (x ∷ K) d ≡ true → Turn K (go (x ∷ K) d)
  one_less : {x : Block} {L : List Block} {d : Due} → K ≡ x ∷ L → takes L d ≡ true → Turn K (go L d)
  as_many : {d : Due} → takes K d ≡ true → Turn K (go K d)
  no_more : Turn K finished
  no_token : {m : ℕ} → Turn K (wrong m)
  no_room : Turn K deep

after_turn : (K : List Block) → Turn K (after K)
unfolding after takes
after_turn [] = no_more
after_turn (list ∷ K) = as_many refl
after_turn (map ∷ K) = as_many refl
after_turn (attributes ∷ K) = as_many refl

after_less : (x : Block) (K : List Block) → Turn (x ∷ K) (after K)
unfolding after takes
after_less x [] = no_more
after_less x (list ∷ K) = one_less refl refl
after_less x (map ∷ K) = one_less refl refl
after_less x (attributes ∷ K) = one_less refl refl

object_takes : (K : List Block) → takes K object ≡ true
unfolding takes
object_takes [] = refl
object_takes (list ∷ K) = refl
object_takes (map ∷ K) = refl
object_takes (attributes ∷ K) = refl

opened_turn : (x : Block) (d : Due) (K : List Block) → takes (x ∷ K) d ≡ true → Turn K (opened x d K)
unfolding opened
opened_turn x d K e = pick_case (Turn K) (ltb (length K) most_open) (go (x ∷ K) d) deep (λ h. one_more (ltb-true _ _ h) e) (λ h. no_room)

module _ (K : List Block) where
  object_turn : (k : Kind) → Turn K (on_object K k)
  unfolding on_object takes
  object_turn Text = after_turn K
  object_turn Scalar = after_turn K
  object_turn OpenList = opened_turn list item K refl
  object_turn CloseList = no_token
  object_turn OpenMap = opened_turn map key K refl
  object_turn CloseMap = no_token
  object_turn OpenAttributes = no_token
  object_turn CloseAttributes = no_token
  object_turn Equals = no_token
  object_turn Semicolon = no_token

  value_turn : (k : Kind) → Turn K (on_value K k)
  unfolding on_value takes
  value_turn Text = object_turn Text
  value_turn Scalar = object_turn Scalar
  value_turn OpenList = object_turn OpenList
  value_turn CloseList = object_turn CloseList
  value_turn OpenMap = object_turn OpenMap
  value_turn CloseMap = object_turn CloseMap
  value_turn OpenAttributes = opened_turn attributes key K refl
  value_turn CloseAttributes = object_turn CloseAttributes
  value_turn Equals = object_turn Equals
  value_turn Semicolon = object_turn Semicolon

list_turn : (K : List Block) → Turn K (end_list K)
unfolding end_list closed
list_turn [] = no_token
list_turn (list ∷ K) = after_less list K
list_turn (map ∷ K) = no_token
list_turn (attributes ∷ K) = no_token

map_turn : (K : List Block) → Turn K (end_map K)
unfolding end_map closed
map_turn [] = no_token
map_turn (list ∷ K) = no_token
map_turn (map ∷ K) = after_less map K
map_turn (attributes ∷ K) = no_token

attributes_turn : (K : List Block) → Turn K (end_attributes K)
unfolding end_attributes closed
attributes_turn [] = no_token
attributes_turn (list ∷ K) = no_token
attributes_turn (map ∷ K) = no_token
attributes_turn (attributes ∷ K) = one_less refl (object_takes K)

item_turn : (K : List Block) → takes K item ≡ true → (k : Kind) → Turn K (on_item K k)
unfolding on_item
item_turn K e Text = value_turn K Text
item_turn K e Scalar = value_turn K Scalar
item_turn K e OpenList = value_turn K OpenList
item_turn K e CloseList = list_turn K
item_turn K e OpenMap = value_turn K OpenMap
item_turn K e CloseMap = value_turn K CloseMap
item_turn K e OpenAttributes = value_turn K OpenAttributes
item_turn K e CloseAttributes = value_turn K CloseAttributes
item_turn K e Equals = value_turn K Equals
item_turn K e Semicolon = as_many e

-- where a key is due `=` may be due as well, and where `=` is due a value
key_equals : (K : List Block) → takes K key ≡ true → takes K equals ≡ true
unfolding takes
key_equals [] e = e
key_equals (list ∷ K) e = e
key_equals (map ∷ K) e = refl
key_equals (attributes ∷ K) e = refl

equals_value : (K : List Block) → takes K equals ≡ true → takes K value ≡ true
unfolding takes
equals_value [] e = refl
equals_value (list ∷ K) e = e
equals_value (map ∷ K) e = refl
equals_value (attributes ∷ K) e = refl

key_turn : (K : List Block) → takes K key ≡ true → (k : Kind) → Turn K (on_key K k)
unfolding on_key
key_turn K e Text = as_many (key_equals K e)
key_turn K e Scalar = no_token
key_turn K e OpenList = no_token
key_turn K e CloseList = no_token
key_turn K e OpenMap = no_token
key_turn K e CloseMap = map_turn K
key_turn K e OpenAttributes = no_token
key_turn K e CloseAttributes = attributes_turn K
key_turn K e Equals = no_token
key_turn K e Semicolon = as_many e

equals_turn : (K : List Block) → takes K equals ≡ true → (k : Kind) → Turn K (on_equals K k)
unfolding on_equals
equals_turn K e Text = no_token
equals_turn K e Scalar = no_token
equals_turn K e OpenList = no_token
equals_turn K e CloseList = no_token
equals_turn K e OpenMap = no_token
equals_turn K e CloseMap = no_token
equals_turn K e OpenAttributes = no_token
equals_turn K e CloseAttributes = no_token
equals_turn K e Equals = as_many (equals_value K e)
equals_turn K e Semicolon = no_token

pub turn : (d : Due) (K : List Block) → takes K d ≡ true → (k : Kind) → Turn K (step d K k)
unfolding step
turn value K e k = value_turn K k
turn object K e k = object_turn K k
turn item K e k = item_turn K e k
turn key K e k = key_turn K e k
turn equals K e k = equals_turn K e k
