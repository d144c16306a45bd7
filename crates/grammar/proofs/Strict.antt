-- The strict grammar is the public one, and what it has the loose one has too.
use mathlib.Core.Logic.{◌↔◌}
use Prim.Native.Nat.{ℕ}
use mathlib.Core.List.{List}
use lib.Dec.{T}
use Rattle.refusal.specs.declared.Format.{Format}
use Rattle.grammar.specs.Grammar.{Looseness, strict, loose, Slot, opening, filled, parted, may_part, may_fill, Shape, items, pairs, Reads, plain, attributed, string, scalar, a_list, a_map, items_end, item, items_part, pairs_end, pair, pairs_part}
use Rattle.grammar.specs.Public.{Fragment, empty, last, then, ListItem, KeyValuePair}

-- 1. Looser

-- l allows what k allows, flag by flag
pub record Allows (k l : Looseness) : Type 0 where
  pub leads : T k.leading → T l.leading
  pub repeats : T k.repeated → T l.repeated
  pub misses : T k.missing → T l.missing

module _ {k l : Looseness} (allows : Allows k l) where
  part_too : (v : Slot) → T (may_part k v) → T (may_part l v)
  part_too opening w = allows.leads w
  part_too filled w = tt
  part_too parted w = allows.repeats w

  fill_too : (v : Slot) → T (may_fill k v) → T (may_fill l v)
  fill_too opening w = tt
  fill_too filled w = allows.misses w
  fill_too parted w = tt

  -- a looser grammar has what a stricter one has
  pub looser : {f : Format} {s : List ℕ} {h : Shape} {d p q : ℕ} → Reads k f s h d p q → Reads l f s h d p q
  looser (plain x) = plain (looser x)
  looser (attributed e h x g y) = attributed e h (looser x) g (looser y)
  looser (string e) = string e
  looser (scalar e) = scalar e
  looser (a_list e h x g) = a_list e h (looser x) g
  looser (a_map e h x g) = a_map e h (looser x) g
  looser items_end = items_end
  looser (item {v = v} w t x) = item (fill_too v w) (looser t) (looser x)
  looser (items_part {v = v} w e x) = items_part (part_too v w) e (looser x)
  looser pairs_end = pairs_end
  looser (pair {v = v} w e g t x) = pair (fill_too v w) e g (looser t) (looser x)
  looser (pairs_part {v = v} w e x) = pairs_part (part_too v w) e (looser x)

pub strict_is_loose : {f : Format} {s : List ℕ} {h : Shape} {d p q : ℕ} → Reads strict f s h d p q → Reads loose f s h d p q
strict_is_loose x = looser (record { leads = λ w. tt; repeats = λ w. tt; misses = λ w. tt }) x

-- 2. The public page's fragments

-- the slots where the strict grammar has an item or nothing
abbrev Fresh : Slot → Type 0
Fresh opening = Unit {0}
Fresh filled = ⊥
Fresh parted = Unit {0}

no_part : (v : Slot) → Fresh v → T (may_part strict v) → ⊥
no_part opening w u = u
no_part filled w u = w
no_part parted w u = u

may_fill_lem : (v : Slot) → Fresh v → T (may_fill strict v)
may_fill_lem opening w = tt
may_fill_lem filled w = absurd w
may_fill_lem parted w = tt

module _ (f : Format) (s : List ℕ) (d : ℕ) where
  list_to : {v : Slot} {p q : ℕ} → Fresh v → Reads strict f s (items v) d p q → Fragment f s (ListItem f s d) p q
  list_to w items_end = empty
  list_to w (item u t items_end) = last t
  list_to w (item u t (item z r x)) = absurd z
  list_to w (item u t (items_part z e x)) = then t e (list_to tt x)
  list_to w (items_part {v = v} u e x) = absurd (no_part v w u)

  list_from : {p q : ℕ} (v : Slot) → Fresh v → Fragment f s (ListItem f s d) p q → Reads strict f s (items v) d p q
  list_from v w empty = items_end
  list_from v w (last t) = item (may_fill_lem v w) t items_end
  list_from v w (then t e x) = item (may_fill_lem v w) t (items_part tt e (list_from parted tt x))

  -- a strict list holds { list-item ";" } [ list-item ]
  pub strict_list_fragment : (p q : ℕ) → Reads strict f s (items opening) d p q ↔ Fragment f s (ListItem f s d) p q
  strict_list_fragment p q = ((λ x. list_to tt x), λ x. list_from opening tt x)

  map_to : {v : Slot} {p q : ℕ} → Fresh v → Reads strict f s (pairs v) d p q → Fragment f s (KeyValuePair f s d) p q
  map_to w pairs_end = empty
  map_to w (pair u e g t pairs_end) = last (record { first = _; behind_key = _; mark = _; behind_mark = _; key_is = e; equals_is = g; value_is = t })
  map_to w (pair u e g t (pair z a b r x)) = absurd z
  map_to w (pair u e g t (pairs_part z c x)) = then (record { first = _; behind_key = _; mark = _; behind_mark = _; key_is = e; equals_is = g; value_is = t }) c (map_to tt x)
  map_to w (pairs_part {v = v} u e x) = absurd (no_part v w u)

  map_from : {p q : ℕ} (v : Slot) → Fresh v → Fragment f s (KeyValuePair f s d) p q → Reads strict f s (pairs v) d p q
  map_from v w empty = pairs_end
  map_from v w (last t) = pair (may_fill_lem v w) t.key_is t.equals_is t.value_is pairs_end
  map_from v w (then t e x) = pair (may_fill_lem v w) t.key_is t.equals_is t.value_is (pairs_part tt e (map_from parted tt x))

  -- a strict map or attribute block holds { key-value-pair ";" } [ key-value-pair ]
  pub strict_map_fragment : (p q : ℕ) → Reads strict f s (pairs opening) d p q ↔ Fragment f s (KeyValuePair f s d) p q
  strict_map_fragment p q = ((λ x. map_to tt x), λ x. map_from opening tt x)
