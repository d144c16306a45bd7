-- A token that is wrong for its place is refused by a number that a refusal has: row by row of the automaton's table. And such a number and a
-- place name a refusal.
use mathlib.Core.Path.{◌≡◌, refl, ap₂, subst}
use Prim.Native.Nat.{ℕ, zero, suc, ◌≤◌, ◌<◌}
use mathlib.Core.Bool.{Bool, true, false}
use mathlib.Core.List.{List, [], ◌∷◌}
use native.Mathlib.Omega.{arith}
use lib.Dec.{ltb}
use lib.ListN.{length}
use Rattle.refusal.specs.Numbers.{too_deep}
use Rattle.refusal.specs.Paper.{Paper, refused, pick}
use Rattle.refusal.specs.Meaning.{why_of, number_of, place_of, refusal_meaning, named_by}
use Rattle.token.specs.declared.Kind.{Kind}
use Rattle.token.specs.declared.Kind.TheVariants.{Text, Scalar, OpenList, CloseList, OpenMap, CloseMap, OpenAttributes, CloseAttributes, Equals, Semicolon}
use Rattle.automaton.specs.Limit.{most_open}
use Rattle.automaton.specs.Step.{Block, list, map, attributes, Due, value, object, item, key, equals, Step, go, finished, wrong, deep, after, closed, opened, on_object, on_value, on_item, on_key, on_equals, end_list, end_map, end_attributes, step}

-- a step refuses by a number that a refusal has
Named : Step → Type 0
Named (go K d) = Unit {0}
Named finished = Unit {0}
Named (wrong w) = (0 < w) × (w < too_deep)
Named deep = Unit {0}

after_named : (K : List Block) → Named (after K)
unfolding Named after
after_named [] = tt
after_named (list ∷ K) = tt
after_named (map ∷ K) = tt
after_named (attributes ∷ K) = tt

closed_named : (b : Block) (K : List Block) → Named (closed b K)
unfolding Named closed
closed_named list K = after_named K
closed_named map K = after_named K
closed_named attributes K = tt

opened_named : (b : Block) (d : Due) (K : List Block) → Named (opened b d K)
unfolding Named opened
opened_named b d K = by (ltb (length K) most_open)
  where
    by : (t : Bool) → Named (pick t (go (b ∷ K) d) deep)
    by true = tt
    by false = tt

object_named : (K : List Block) (k : Kind) → Named (on_object K k)
unfolding Named on_object
object_named K Text = after_named K
object_named K Scalar = after_named K
object_named K OpenList = opened_named list item K
object_named K CloseList = (omega arith, omega arith)
object_named K OpenMap = opened_named map key K
object_named K CloseMap = (omega arith, omega arith)
object_named K OpenAttributes = (omega arith, omega arith)
object_named K CloseAttributes = (omega arith, omega arith)
object_named K Equals = (omega arith, omega arith)
object_named K Semicolon = (omega arith, omega arith)

value_named : (K : List Block) (k : Kind) → Named (on_value K k)
unfolding Named on_value
value_named K Text = object_named K Text
value_named K Scalar = object_named K Scalar
value_named K OpenList = object_named K OpenList
value_named K CloseList = object_named K CloseList
value_named K OpenMap = object_named K OpenMap
value_named K CloseMap = object_named K CloseMap
value_named K OpenAttributes = opened_named attributes key K
value_named K CloseAttributes = object_named K CloseAttributes
value_named K Equals = object_named K Equals
value_named K Semicolon = object_named K Semicolon

list_named : (K : List Block) → Named (end_list K)
unfolding Named end_list
list_named [] = (omega arith, omega arith)
list_named (list ∷ K) = closed_named list K
list_named (map ∷ K) = (omega arith, omega arith)
list_named (attributes ∷ K) = (omega arith, omega arith)

map_named : (K : List Block) → Named (end_map K)
unfolding Named end_map
map_named [] = (omega arith, omega arith)
map_named (list ∷ K) = (omega arith, omega arith)
map_named (map ∷ K) = closed_named map K
map_named (attributes ∷ K) = (omega arith, omega arith)

attributes_named : (K : List Block) → Named (end_attributes K)
unfolding Named end_attributes
attributes_named [] = (omega arith, omega arith)
attributes_named (list ∷ K) = (omega arith, omega arith)
attributes_named (map ∷ K) = (omega arith, omega arith)
attributes_named (attributes ∷ K) = closed_named attributes K

item_named : (K : List Block) (k : Kind) → Named (on_item K k)
unfolding Named on_item
item_named K Text = value_named K Text
item_named K Scalar = value_named K Scalar
item_named K OpenList = value_named K OpenList
item_named K CloseList = list_named K
item_named K OpenMap = value_named K OpenMap
item_named K CloseMap = value_named K CloseMap
item_named K OpenAttributes = value_named K OpenAttributes
item_named K CloseAttributes = value_named K CloseAttributes
item_named K Equals = value_named K Equals
item_named K Semicolon = tt

key_named : (K : List Block) (k : Kind) → Named (on_key K k)
unfolding Named on_key
key_named K Text = tt
key_named K Scalar = (omega arith, omega arith)
key_named K OpenList = (omega arith, omega arith)
key_named K CloseList = (omega arith, omega arith)
key_named K OpenMap = (omega arith, omega arith)
key_named K CloseMap = map_named K
key_named K OpenAttributes = (omega arith, omega arith)
key_named K CloseAttributes = attributes_named K
key_named K Equals = (omega arith, omega arith)
key_named K Semicolon = tt

equals_named : (K : List Block) (k : Kind) → Named (on_equals K k)
unfolding Named on_equals
equals_named K Text = (omega arith, omega arith)
equals_named K Scalar = (omega arith, omega arith)
equals_named K OpenList = (omega arith, omega arith)
equals_named K CloseList = (omega arith, omega arith)
equals_named K OpenMap = (omega arith, omega arith)
equals_named K CloseMap = (omega arith, omega arith)
equals_named K OpenAttributes = (omega arith, omega arith)
equals_named K CloseAttributes = (omega arith, omega arith)
equals_named K Equals = tt
equals_named K Semicolon = (omega arith, omega arith)

step_named : (d : Due) (K : List Block) (k : Kind) → Named (step d K k)
unfolding step
step_named value K k = value_named K k
step_named object K k = object_named K k
step_named item K k = item_named K k
step_named key K k = key_named K k
step_named equals K k = equals_named K k

pub wrong_named : (d : Due) (K : List Block) (k : Kind) (w : ℕ) → step d K k ≡ wrong w → (0 < w) × (w ≤ too_deep)
unfolding Named
wrong_named d K k w e = let n : (0 < w) × (w < too_deep) = subst Named e (step_named d K k) in (n.0, omega arith)

-- and not by that of a block too many
pub wrong_shallow : (d : Due) (K : List Block) (k : Kind) (w : ℕ) → step d K k ≡ wrong w → w < too_deep
unfolding Named
wrong_shallow d K k w e = (subst Named e (step_named d K k)).1

-- the numbers up to the last that a refusal has, each with its name
named : (n p : ℕ) → 0 < n → n ≤ too_deep → (number_of (named_by n p) ≡ n) × (place_of (named_by n p) ≡ p)
unfolding why_of
named zero p h g = absurd (omega arith)
named (suc zero) p h g = (refl, refl)
named (suc (suc zero)) p h g = (refl, refl)
named (suc (suc (suc zero))) p h g = (refl, refl)
named (suc (suc (suc (suc zero)))) p h g = (refl, refl)
named (suc (suc (suc (suc (suc zero))))) p h g = (refl, refl)
named (suc (suc (suc (suc (suc (suc zero)))))) p h g = (refl, refl)
named (suc (suc (suc (suc (suc (suc (suc zero))))))) p h g = (refl, refl)
named (suc (suc (suc (suc (suc (suc (suc (suc zero)))))))) p h g = (refl, refl)
named (suc (suc (suc (suc (suc (suc (suc (suc (suc zero))))))))) p h g = (refl, refl)
named (suc (suc (suc (suc (suc (suc (suc (suc (suc (suc zero)))))))))) p h g = (refl, refl)
named (suc (suc (suc (suc (suc (suc (suc (suc (suc (suc (suc zero))))))))))) p h g = (refl, refl)
named (suc (suc (suc (suc (suc (suc (suc (suc (suc (suc (suc (suc zero)))))))))))) p h g = (refl, refl)
named (suc (suc (suc (suc (suc (suc (suc (suc (suc (suc (suc (suc (suc zero))))))))))))) p h g = (refl, refl)
named (suc (suc (suc (suc (suc (suc (suc (suc (suc (suc (suc (suc (suc (suc n)))))))))))))) p h g = absurd (omega arith)

-- a refusal that is named by a number and a place means them
pub named_means : (n p : ℕ) → 0 < n → n ≤ too_deep → ◌≡◌ {A = Paper ℕ} (refusal_meaning (named_by n p)) (refused n (p ∷ []))
named_means n p h g = let x = named n p h g in ap₂ (λ (m q : ℕ). refused m (q ∷ [])) x.0 x.1
