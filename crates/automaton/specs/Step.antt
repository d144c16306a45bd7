-- The automaton over tokens: which blocks are open, innermost first, what is due, and what a token of each kind does there.
-- The scan runs it over the bytes of one value, and a reader of a stream keeps its state between pieces.
use Rattle.std.specs.Prelude.{ℕ, List, [], ◌∷◌, ltb, length}
use Rattle.refusal.specs.Numbers.{not_value, not_key, not_equals}
use Rattle.refusal.specs.Paper.{pick}
use Rattle.token.specs.declared.Kind.{Kind}
use Rattle.token.specs.declared.Kind.TheVariants.{Text, Scalar, OpenList, CloseList, OpenMap, CloseMap, OpenAttributes, CloseAttributes, Equals, Semicolon}
use Rattle.automaton.specs.Limit.{most_open}

-- the three blocks: `[..]`, `{..}`, `<..>`
pub data Block : Type 0 where
  list map attributes : Block

-- value: a value, with attributes or without; object: a value with no attributes (an attribute block is passed);
-- item: a value, `;` or `]`; key: a key, `;` or the block's end; equals: `=`
pub data Due : Type 0 where
  value object item key equals : Due

-- after a token: the blocks that are open then and what is due there; the value is whole; the token is wrong for its place, refused
-- by this number; or it would open a block too many
pub data Step : Type 0 where
  go : List Block → Due → Step
  finished : Step
  wrong : ℕ → Step
  deep : Step

-- what follows a whole value in the blocks K
unfoldable pub after : List Block → Step
after [] = finished
after (list ∷ K) = go (list ∷ K) item
after (map ∷ K) = go (map ∷ K) key
after (attributes ∷ K) = go (attributes ∷ K) key

-- what follows the end of a block that stands in K: a list or a map is a value, attributes have their value behind them
unfoldable pub closed : Block → List Block → Step
closed list K = after K
closed map K = after K
closed attributes K = go K object

-- a block b is opened in K, and d is due in it, unless as many as may be are open
unfoldable pub opened : Block → Due → List Block → Step
opened b d K = pick (ltb (length K) most_open) (go (b ∷ K) d) deep

-- where a value with no attributes is due: a scalar, or the beginning of a list or a map; any other token is 10
unfoldable pub on_object : List Block → Kind → Step
on_object K Text = after K
on_object K Scalar = after K
on_object K OpenList = opened list item K
on_object K CloseList = wrong not_value
on_object K OpenMap = opened map key K
on_object K CloseMap = wrong not_value
on_object K OpenAttributes = wrong not_value
on_object K CloseAttributes = wrong not_value
on_object K Equals = wrong not_value
on_object K Semicolon = wrong not_value

-- where a value is due: the same, or the beginning of attributes
unfoldable pub on_value : List Block → Kind → Step
on_value K Text = on_object K Text
on_value K Scalar = on_object K Scalar
on_value K OpenList = on_object K OpenList
on_value K CloseList = on_object K CloseList
on_value K OpenMap = on_object K OpenMap
on_value K CloseMap = on_object K CloseMap
on_value K OpenAttributes = opened attributes key K
on_value K CloseAttributes = on_object K CloseAttributes
on_value K Equals = on_object K Equals
on_value K Semicolon = on_object K Semicolon

-- the innermost block ends by its own mark, and by no other
unfoldable pub end_list : List Block → Step
end_list [] = wrong not_value
end_list (list ∷ K) = closed list K
end_list (map ∷ K) = wrong not_value
end_list (attributes ∷ K) = wrong not_value

unfoldable pub end_map : List Block → Step
end_map [] = wrong not_key
end_map (list ∷ K) = wrong not_key
end_map (map ∷ K) = closed map K
end_map (attributes ∷ K) = wrong not_key

unfoldable pub end_attributes : List Block → Step
end_attributes [] = wrong not_key
end_attributes (list ∷ K) = wrong not_key
end_attributes (map ∷ K) = wrong not_key
end_attributes (attributes ∷ K) = closed attributes K

-- in a list: `]`, a value, or `;`, which may be missing, repeated or stand first
unfoldable pub on_item : List Block → Kind → Step
on_item K Text = on_value K Text
on_item K Scalar = on_value K Scalar
on_item K OpenList = on_value K OpenList
on_item K CloseList = end_list K
on_item K OpenMap = on_value K OpenMap
on_item K CloseMap = on_value K CloseMap
on_item K OpenAttributes = on_value K OpenAttributes
on_item K CloseAttributes = on_value K CloseAttributes
on_item K Equals = on_value K Equals
on_item K Semicolon = go K item

-- in a map or an attribute block: the block's end, a key, or `;` as in a list; any other token is 11
unfoldable pub on_key : List Block → Kind → Step
on_key K Text = go K equals
on_key K Scalar = wrong not_key
on_key K OpenList = wrong not_key
on_key K CloseList = wrong not_key
on_key K OpenMap = wrong not_key
on_key K CloseMap = end_map K
on_key K OpenAttributes = wrong not_key
on_key K CloseAttributes = end_attributes K
on_key K Equals = wrong not_key
on_key K Semicolon = go K key

-- behind a key: `=`; any other token is 12
unfoldable pub on_equals : List Block → Kind → Step
on_equals K Text = wrong not_equals
on_equals K Scalar = wrong not_equals
on_equals K OpenList = wrong not_equals
on_equals K CloseList = wrong not_equals
on_equals K OpenMap = wrong not_equals
on_equals K CloseMap = wrong not_equals
on_equals K OpenAttributes = wrong not_equals
on_equals K CloseAttributes = wrong not_equals
on_equals K Equals = go K value
on_equals K Semicolon = wrong not_equals

-- what a token does, by what is due
unfoldable pub step : Due → List Block → Kind → Step
step value = on_value
step object = on_object
step item = on_item
step key = on_key
step equals = on_equals
