-- What a token does to the open blocks, over plain variables. Assumes nothing.
use mathlib.Core.Path.{◌≡◌, refl, ap, ◌∙◌}
use mathlib.Core.Bool.{Bool, true, false}
use mathlib.Core.List.{List, [], ◌∷◌}
use Rattle.std.specs.Prelude.{Ok, Err, Option, Some, None}
use Prim.Native.Nat.{ℕ, zero, suc, ◌+◌, ◌-◌, ◌≤◌, ◌<◌}
use native.Mathlib.Omega.{arith}
use lib.Dec.{eqb}
use lib.ListN.{length, get_or, set}
use borrow.Author.Tests.{ne_eqb, eqb-true, le-ltb}
use Rattle.refusal.specs.Paper.{pick}
use Rattle.refusal.specs.Meaning.{why_of}
use Rattle.refusal.specs.declared.Why.TheVariants.{TooDeep}
use Rattle.token.specs.declared.Kind.TheVariants as kind
use Rattle.automaton.specs.Limit.{most_open}
use Rattle.automaton.specs.Step.{list, map, attributes, value, object, item, key, equals, Step, go, finished, wrong, deep, after, closed, opened, on_object, on_value, on_item, on_key, on_equals, end_list, end_map, end_attributes, step}
use Rattle.automaton.specs.Step as automaton
use Rattle.automaton.proofs.Opened.{too_deep_lem, not_deep}
use Rattle.kept.specs.declared.Blocks.{Blocks}
use Rattle.kept.specs.Kept.{block_of, around, open_in, due_of, kept_due, blocks_of, byte_of, kinds_then, no_blocks}
use Rattle.kept.proofs.Stack.{open_none, open_some, open_length, around_is, then_open}
use Rattle.blocks.specs.declared.Block.{Block}
use Rattle.blocks.specs.declared.Block.TheVariants.{List as ListBlock, Map, Attributes}
use Rattle.blocks.specs.Moves.{kind_by, value_due, wrong_by, turned, turn_of, block_named, kind_byte, due_in, closing, innermost_of}

-- ---- the innermost block

pub innermost_none : (ks : List ℕ) (n : ℕ) → n ≡ 0 → innermost_of (open_in n ks) ≡ None
innermost_none ks n e = rw (open_none ks n e) refl

-- by its byte
block_at : (k : ℕ) (K : List automaton.Block) → innermost_of (block_of k ∷ K) ≡ pick (eqb k 1) (Some ListBlock) (pick (eqb k 2) (Some Map) (Some Attributes))
unfolding block_of
block_at k K = by (eqb k 1) (eqb k 2)
  where
    by : (p q : Bool) → innermost_of (pick p list (pick q map attributes) ∷ K) ≡ pick p (Some ListBlock) (pick q (Some Map) (Some Attributes))
    by true q = refl
    by false true = refl
    by false false = refl

pub innermost_some : (ks : List ℕ) (n : ℕ) → (n ≡ 0 → ⊥) → innermost_of (open_in n ks) ≡ pick (eqb (get_or ks (n - 1) 0) 1) (Some ListBlock) (pick (eqb (get_or ks (n - 1) 0) 2) (Some Map) (Some Attributes))
innermost_some ks n h = rw (open_some ks n h) (block_at (get_or ks (n - 1) 0) (open_in (n - 1) ks))

-- ---- a whole value

pub none_few : no_blocks.depth ≤ most_open
unfolding no_blocks
none_few = omega arith

module _ (b : Blocks) where
  -- what stays open
  pub goes_on : (d : automaton.Due) → turn_of b (go (blocks_of b) d) ≡ turned (Ok false) (record b { due = kept_due d })
  unfolding turn_of kinds_then
  goes_on d = rw (open_length b.kinds b.depth, le-ltb b.depth b.depth (omega arith)) refl

  pub refuses : (m : ℕ) → turn_of b (wrong m) ≡ turned (Err (why_of m)) b
  unfolding turn_of
  refuses m = refl

  pub whole_none : innermost_of (blocks_of b) ≡ None → turn_of b (after (blocks_of b)) ≡ turned (Ok true) no_blocks
  unfolding turn_of after
  whole_none e = by (blocks_of b) e
    where
      by : (K : List automaton.Block) → innermost_of K ≡ None → turn_of b (after K) ≡ turned (Ok true) no_blocks
      by [] e = refl
      by (list ∷ K) e = cc
      by (map ∷ K) e = cc
      by (attributes ∷ K) e = cc

  pub whole_some : (x : Block) → innermost_of (blocks_of b) ≡ Some x → turn_of b (after (blocks_of b)) ≡ turned (Ok false) (record b { due = due_in x })
  unfolding after
  whole_some x e = by (blocks_of b) refl e
    where
      by : (K : List automaton.Block) → blocks_of b ≡ K → innermost_of K ≡ Some x → turn_of b (after K) ≡ turned (Ok false) (record b { due = due_in x })
      by [] f e = cc
      by (list ∷ K) f e = let g : ListBlock ≡ x = cc in rw (← f, ← g) (goes_on item)
      by (map ∷ K) f e = let g : Map ≡ x = cc in rw (← f, ← g) (goes_on key)
      by (attributes ∷ K) f e = let g : Attributes ≡ x = cc in rw (← f, ← g) (goes_on key)

  -- ---- a block opens

  pub opens_deep : (x : Block) → b.depth ≡ most_open → turn_of b (opened (block_named x) (due_of (due_in x)) (blocks_of b)) ≡ turned (Err TooDeep) b
  unfolding turn_of
  opens_deep x e = ap (turn_of b) (too_deep_lem (block_named x) (due_of (due_in x)) (blocks_of b) (open_length b.kinds b.depth ∙ e))

  byte_is : (x : Block) → kind_byte x ≡ byte_of (block_named x)
  unfolding byte_of
  byte_is ListBlock = refl
  byte_is Map = refl
  byte_is Attributes = refl

  pub opens_room : (x : Block) → b.depth < most_open
      → turn_of b (opened (block_named x) (due_of (due_in x)) (blocks_of b)) ≡ turned (Ok false) (record { depth = b.depth + 1; due = due_in x; kinds = set b.kinds b.depth (kind_byte x) })
  unfolding turn_of
  opens_room x h =
      ap (turn_of b) (not_deep (block_named x) (due_of (due_in x)) (blocks_of b) (omega (arith, open_length b.kinds b.depth)))
      ∙ ap (turned (Ok false)) (then_open b.depth b.kinds b.due (due_in x) (block_named x) (kind_byte x) (byte_is x))

  -- ---- a block ends

  pub some_open : (x : Block) → innermost_of (blocks_of b) ≡ Some x → 0 < b.depth
  unfolding open_in
  some_open x e = by b.depth e
    where
      by : (n : ℕ) → innermost_of (open_in n b.kinds) ≡ Some x → 0 < n
      by zero e = cc
      by (suc n) e = omega arith

  pub closes : (d : automaton.Due) → 0 < b.depth → turn_of b (go (around (blocks_of b)) d) ≡ turned (Ok false) (record { depth = b.depth - 1; due = kept_due d; kinds = b.kinds })
  unfolding turn_of kinds_then
  closes d h = rw (around_is b.kinds b.depth (λ z. omega arith), open_length b.kinds (b.depth - 1), le-ltb b.depth (b.depth - 1) (omega arith)) refl

  -- the blocks around the innermost
  outer : Blocks
  outer = record { depth = b.depth - 1; due = b.due; kinds = b.kinds }

  outer_goes : (K : List automaton.Block) (d : automaton.Due) → open_in (b.depth - 1) b.kinds ≡ K → turn_of b (go K d) ≡ turn_of outer (go K d)
  unfolding turn_of kinds_then outer
  outer_goes K d f =
      let l : length K ≡ b.depth - 1 = omega (arith, ap length f, open_length b.kinds (b.depth - 1)) in
      rw (l, le-ltb b.depth (b.depth - 1) (omega arith), le-ltb (b.depth - 1) (b.depth - 1) (omega arith)) refl

  pub closes_whole : 0 < b.depth → turn_of b (after (around (blocks_of b))) ≡ turn_of (record { depth = b.depth - 1; due = b.due; kinds = b.kinds }) (after (open_in (b.depth - 1) b.kinds))
  unfolding turn_of after outer
  closes_whole h = let e = around_is b.kinds b.depth (λ z. omega arith) in rw e (by (open_in (b.depth - 1) b.kinds) refl)
    where
      by : (K : List automaton.Block) → open_in (b.depth - 1) b.kinds ≡ K → turn_of b (after K) ≡ turn_of outer (after K)
      by [] f = refl
      by (list ∷ K) f = outer_goes (list ∷ K) item f
      by (map ∷ K) f = outer_goes (map ∷ K) key f
      by (attributes ∷ K) f = outer_goes (attributes ∷ K) key f

-- whether a block x ends, where d is due and y is the innermost block
abbrev ends : automaton.Due → Option Block → Block → Bool
ends value y x = false
ends object y x = false
ends item None x = false
ends item (Some ListBlock) ListBlock = true
ends item (Some ListBlock) Map = false
ends item (Some ListBlock) Attributes = false
ends item (Some Map) x = false
ends item (Some Attributes) x = false
ends key None x = false
ends key (Some ListBlock) x = false
ends key (Some Map) ListBlock = false
ends key (Some Map) Map = true
ends key (Some Map) Attributes = false
ends key (Some Attributes) ListBlock = false
ends key (Some Attributes) Map = false
ends key (Some Attributes) Attributes = true
ends equals y x = false

pub closing_step : (d : automaton.Due) (K : List automaton.Block) (x : Block) → step d K (closing x) ≡ pick (ends d (innermost_of K) x) (closed (block_named x) (around K)) (wrong (wrong_by d))
unfolding step on_value on_object on_item on_key on_equals end_list end_map end_attributes
closing_step value K ListBlock = refl
closing_step value K Map = refl
closing_step value K Attributes = refl
closing_step object K ListBlock = refl
closing_step object K Map = refl
closing_step object K Attributes = refl
closing_step item [] ListBlock = refl
closing_step item (list ∷ K) ListBlock = refl
closing_step item (map ∷ K) ListBlock = refl
closing_step item (attributes ∷ K) ListBlock = refl
closing_step item [] Map = refl
closing_step item (list ∷ K) Map = refl
closing_step item (map ∷ K) Map = refl
closing_step item (attributes ∷ K) Map = refl
closing_step item [] Attributes = refl
closing_step item (list ∷ K) Attributes = refl
closing_step item (map ∷ K) Attributes = refl
closing_step item (attributes ∷ K) Attributes = refl
closing_step key [] ListBlock = refl
closing_step key (list ∷ K) ListBlock = refl
closing_step key (map ∷ K) ListBlock = refl
closing_step key (attributes ∷ K) ListBlock = refl
closing_step key [] Map = refl
closing_step key (list ∷ K) Map = refl
closing_step key (map ∷ K) Map = refl
closing_step key (attributes ∷ K) Map = refl
closing_step key [] Attributes = refl
closing_step key (list ∷ K) Attributes = refl
closing_step key (map ∷ K) Attributes = refl
closing_step key (attributes ∷ K) Attributes = refl
closing_step equals K ListBlock = refl
closing_step equals K Map = refl
closing_step equals K Attributes = refl

-- ---- what a token of each kind does, by what is due

-- between the parts of a block
abbrev parted : automaton.Due → Bool
parted value = false
parted object = false
parted item = true
parted key = true
parted equals = false

-- behind a key
abbrev named : automaton.Due → Bool
named value = false
named object = false
named item = false
named key = false
named equals = true

-- before a value whose attributes are not passed
abbrev bare : automaton.Due → Bool
bare value = true
bare object = false
bare item = true
bare key = false
bare equals = false

pub semicolon_step : (d : automaton.Due) (K : List automaton.Block) → step d K kind.Semicolon ≡ pick (parted d) (go K d) (wrong (wrong_by d))
unfolding step on_value on_object on_item on_key on_equals
semicolon_step value K = refl
semicolon_step object K = refl
semicolon_step item K = refl
semicolon_step key K = refl
semicolon_step equals K = refl

pub equals_step : (d : automaton.Due) (K : List automaton.Block) → step d K kind.Equals ≡ pick (named d) (go K value) (wrong (wrong_by d))
unfolding step on_value on_object on_item on_key on_equals
equals_step value K = refl
equals_step object K = refl
equals_step item K = refl
equals_step key K = refl
equals_step equals K = refl

pub attributes_step : (d : automaton.Due) (K : List automaton.Block) → step d K kind.OpenAttributes ≡ pick (bare d) (opened attributes key K) (wrong (wrong_by d))
unfolding step on_value on_object on_item on_key on_equals
attributes_step value K = refl
attributes_step object K = refl
attributes_step item K = refl
attributes_step key K = refl
attributes_step equals K = refl

pub list_step : (d : automaton.Due) (K : List automaton.Block) → step d K kind.OpenList ≡ pick (value_due d) (opened list item K) (wrong (wrong_by d))
unfolding step on_value on_object on_item on_key on_equals
list_step value K = refl
list_step object K = refl
list_step item K = refl
list_step key K = refl
list_step equals K = refl

pub map_step : (d : automaton.Due) (K : List automaton.Block) → step d K kind.OpenMap ≡ pick (value_due d) (opened map key K) (wrong (wrong_by d))
unfolding step on_value on_object on_item on_key on_equals
map_step value K = refl
map_step object K = refl
map_step item K = refl
map_step key K = refl
map_step equals K = refl

pub key_step : (K : List automaton.Block) → step key K kind.Text ≡ go K equals
unfolding step on_key
key_step K = refl

-- a token by whose byte none of the marks stands, where no string is a key: a value
pub value_step : (d : automaton.Due) (K : List automaton.Block) (b : ℕ) → (b ≡ 0x5B → ⊥) → (b ≡ 0x5D → ⊥) → (b ≡ 0x7B → ⊥) → (b ≡ 0x7D → ⊥) → (b ≡ 0x3C → ⊥) → (b ≡ 0x3E → ⊥) → (b ≡ 0x3D → ⊥) → (b ≡ 0x3B → ⊥) → (d ≡ key → b ≡ 0x01 → ⊥)
    → step d K (kind_by b) ≡ pick (value_due d) (after K) (wrong (wrong_by d))
unfolding kind_by step on_value on_object on_item on_key on_equals
value_step d K b h₁ h₂ h₃ h₄ h₅ h₆ h₇ h₈ h₉ =
    rw (ne_eqb b 0x5B h₁, ne_eqb b 0x5D h₂, ne_eqb b 0x7B h₃, ne_eqb b 0x7D h₄, ne_eqb b 0x3C h₅, ne_eqb b 0x3E h₆, ne_eqb b 0x3D h₇, ne_eqb b 0x3B h₈) (by d (eqb b 0x01) refl h₉)
  where
    by : (d : automaton.Due) (q : Bool) → eqb b 0x01 ≡ q → (d ≡ key → b ≡ 0x01 → ⊥) → step d K (pick q kind.Text kind.Scalar) ≡ pick (value_due d) (after K) (wrong (wrong_by d))
    by value true e h = refl
    by value false e h = refl
    by object true e h = refl
    by object false e h = refl
    by item true e h = refl
    by item false e h = refl
    by key true e h = absurd (h refl (eqb-true _ _ e))
    by key false e h = refl
    by equals true e h = refl
    by equals false e h = refl

pub ruleset ending = (refuses, some_open, closes, closes_whole, closing_step)

pub ruleset taking = (goes_on, refuses, semicolon_step, equals_step, attributes_step, list_step, map_step, key_step, value_step)
