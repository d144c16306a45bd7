-- Open blocks that pass 28's tests pass them behind each token. Assumes nothing.
use mathlib.Core.Path.{◌≡◌, refl, sym, ap, subst, ◌∙◌}
use mathlib.Core.Bool.{true}
use mathlib.Core.List.{List, [], ◌∷◌}
use Prim.Native.Nat.{ℕ, zero, suc, ◌+◌, ◌-◌, ◌≤◌, ◌<◌}
use native.Mathlib.Omega.{arith}
use native.Mathlib.Numerals.{add-one}
use lib.Dec.{ltb}
use lib.ListN.{length, get_or, set, length-set, length-replicate}
use lib.Seq.{get_or-set_same, get_or-set_other}
use borrow.Author.Tests.{ltb-true}
use Rattle.token.specs.declared.Kind.{Kind}
use Rattle.token.specs.declared.Kind.TheVariants.{Text, Scalar, OpenList, CloseList, OpenMap, CloseMap, OpenAttributes, CloseAttributes, Equals, Semicolon}
use Rattle.automaton.specs.Limit.{most_open}
use Rattle.automaton.specs.Step.{Block, list, map, attributes, Due, value, object, item, key, equals, Step, go, finished, wrong, deep, after, closed, opened, on_object, on_value, on_item, on_key, on_equals, end_list, end_map, end_attributes, step}
use Rattle.kept.specs.declared.Blocks.{Blocks}
use Rattle.kept.specs.Kept.{around, block_of, byte_of, open_in, blocks_of, due_of, kept_due, no_blocks, blocks_then, kinds_known, takes, due_fits}
use Rattle.kept.specs.declared.Due as declared
use Rattle.kept.proofs.Stack.{blocks, open_length, around_is, known_byte, known_less, then_open, then_close, then_keep}
use Rattle.blocks.proofs.Firsts.{pick_case}
use Rattle.history.specs.Facts.{Slotted}

-- ---- a token's step

-- the blocks K, and L behind one token: one more, the same, or all but the innermost
data Turned : List Block → List Block → Type 0 where
  one_more : {x : Block} {K : List Block} → length K < most_open → Turned K (x ∷ K)
  the_same : {K : List Block} → Turned K K
  one_less : {x : Block} {K : List Block} → Turned (x ∷ K) K

-- a step that goes on leaves blocks of which the innermost takes what is due
abbrev Apt : List Block → Step → Type 0
Apt K (go L e) = (takes L e ≡ true) × Turned K L
Apt K finished = Unit {0}
Apt K (wrong n) = Unit {0}
Apt K deep = Unit {0}

takes_object : (K : List Block) → takes K object ≡ true
unfolding takes
takes_object [] = refl
takes_object (list ∷ K) = refl
takes_object (map ∷ K) = refl
takes_object (attributes ∷ K) = refl

after_apt : (M K : List Block) → Turned M K → Apt M (after K)
unfolding after takes
after_apt M [] t = tt
after_apt M (list ∷ K) t = (refl, t)
after_apt M (map ∷ K) t = (refl, t)
after_apt M (attributes ∷ K) t = (refl, t)

opened_apt : (b : Block) (d : Due) (K : List Block) → takes (b ∷ K) d ≡ true → Apt K (opened b d K)
unfolding opened
opened_apt b d K e = pick_case (Apt K) (ltb (length K) most_open) (go (b ∷ K) d) deep (λ l. (e, one_more (ltb-true _ _ l))) (λ _. tt)

object_apt : (K : List Block) (k : Kind) → Apt K (on_object K k)
unfolding on_object takes
object_apt K Text = after_apt K K the_same
object_apt K Scalar = after_apt K K the_same
object_apt K OpenList = opened_apt list item K refl
object_apt K CloseList = tt
object_apt K OpenMap = opened_apt map key K refl
object_apt K CloseMap = tt
object_apt K OpenAttributes = tt
object_apt K CloseAttributes = tt
object_apt K Equals = tt
object_apt K Semicolon = tt

value_apt : (K : List Block) (k : Kind) → Apt K (on_value K k)
unfolding on_value takes
value_apt K Text = object_apt K Text
value_apt K Scalar = object_apt K Scalar
value_apt K OpenList = object_apt K OpenList
value_apt K CloseList = object_apt K CloseList
value_apt K OpenMap = object_apt K OpenMap
value_apt K CloseMap = object_apt K CloseMap
value_apt K OpenAttributes = opened_apt attributes key K refl
value_apt K CloseAttributes = object_apt K CloseAttributes
value_apt K Equals = object_apt K Equals
value_apt K Semicolon = object_apt K Semicolon

end_list_apt : (K : List Block) → Apt K (end_list K)
unfolding end_list closed
end_list_apt [] = tt
end_list_apt (list ∷ K) = after_apt (list ∷ K) K one_less
end_list_apt (map ∷ K) = tt
end_list_apt (attributes ∷ K) = tt

end_map_apt : (K : List Block) → Apt K (end_map K)
unfolding end_map closed
end_map_apt [] = tt
end_map_apt (list ∷ K) = tt
end_map_apt (map ∷ K) = after_apt (map ∷ K) K one_less
end_map_apt (attributes ∷ K) = tt

end_attributes_apt : (K : List Block) → Apt K (end_attributes K)
unfolding end_attributes closed
end_attributes_apt [] = tt
end_attributes_apt (list ∷ K) = tt
end_attributes_apt (map ∷ K) = tt
end_attributes_apt (attributes ∷ K) = (takes_object K, one_less)

item_apt : (K : List Block) (k : Kind) → takes K item ≡ true → Apt K (on_item K k)
unfolding on_item
item_apt K Text h = value_apt K Text
item_apt K Scalar h = value_apt K Scalar
item_apt K OpenList h = value_apt K OpenList
item_apt K CloseList h = end_list_apt K
item_apt K OpenMap h = value_apt K OpenMap
item_apt K CloseMap h = value_apt K CloseMap
item_apt K OpenAttributes h = value_apt K OpenAttributes
item_apt K CloseAttributes h = value_apt K CloseAttributes
item_apt K Equals h = value_apt K Equals
item_apt K Semicolon h = (h, the_same)

-- where a key is due `=` may be, and where `=` is due a value may be
key_equals : (K : List Block) → takes K key ≡ takes K equals
unfolding takes
key_equals [] = refl
key_equals (list ∷ K) = refl
key_equals (map ∷ K) = refl
key_equals (attributes ∷ K) = refl

equals_value : (K : List Block) → takes K equals ≡ true → takes K value ≡ true
unfolding takes
equals_value [] h = refl
equals_value (list ∷ K) h = h
equals_value (map ∷ K) h = refl
equals_value (attributes ∷ K) h = refl

key_apt : (K : List Block) (k : Kind) → takes K key ≡ true → Apt K (on_key K k)
unfolding on_key
key_apt K Text h = (sym (key_equals K) ∙ h, the_same)
key_apt K Scalar h = tt
key_apt K OpenList h = tt
key_apt K CloseList h = tt
key_apt K OpenMap h = tt
key_apt K CloseMap h = end_map_apt K
key_apt K OpenAttributes h = tt
key_apt K CloseAttributes h = end_attributes_apt K
key_apt K Equals h = tt
key_apt K Semicolon h = (h, the_same)

equals_apt : (K : List Block) (k : Kind) → takes K equals ≡ true → Apt K (on_equals K k)
unfolding on_equals
equals_apt K Text h = tt
equals_apt K Scalar h = tt
equals_apt K OpenList h = tt
equals_apt K CloseList h = tt
equals_apt K OpenMap h = tt
equals_apt K CloseMap h = tt
equals_apt K OpenAttributes h = tt
equals_apt K CloseAttributes h = tt
equals_apt K Equals h = (equals_value K h, the_same)
equals_apt K Semicolon h = tt

-- each step of the automaton keeps what the innermost block takes
step_apt : (d : Due) (K : List Block) (k : Kind) → takes K d ≡ true → Apt K (step d K k)
unfolding step
step_apt value K k h = value_apt K k
step_apt object K k h = object_apt K k
step_apt item K k h = item_apt K k h
step_apt key K k h = key_apt K k h
step_apt equals K k h = equals_apt K k h

-- ---- the bytes of the blocks

-- blocks that can be open behind so many bytes of a record, in an array of 128 bytes
pub record Sound (b : Blocks) (passed : ℕ) : Type 0 where
  pub top : b.depth ≤ most_open
  pub few : b.depth ≤ passed
  pub known : kinds_known b.depth b.kinds ≡ true
  pub due : due_fits b ≡ true
  pub slots : Slotted b

-- a byte at n or above is no byte of the first n blocks
module _ (ks : List ℕ) (i v : ℕ) where
  other : (n : ℕ) → n < i → get_or (set ks i v) n 0 ≡ get_or ks n 0
  other n h = get_or-set_other ks i n v 0 (λ e. let z : n ≡ i = e in omega arith)

  open_below : (n : ℕ) → n ≤ i → open_in n (set ks i v) ≡ open_in n ks
  unfolding open_in
  open_below zero h = refl
  open_below (suc n) h = let e = open_below n (omega arith) in let f = other n (omega arith) in rw (e, f) refl

  known_below : (n : ℕ) → n ≤ i → kinds_known n (set ks i v) ≡ kinds_known n ks
  unfolding kinds_known
  known_below zero h = refl
  known_below (suc n) h = let e = known_below n (omega arith) in let f = other n (omega arith) in rw (e, f) refl

block_byte : (x : Block) → block_of (byte_of x) ≡ x
unfolding block_of byte_of
block_byte list = refl
block_byte map = refl
block_byte attributes = refl

due_kept : (d : Due) → due_of (kept_due d) ≡ d
due_kept value = refl
due_kept object = refl
due_kept item = refl
due_kept key = refl
due_kept equals = refl

-- a block more
module _ (n : ℕ) (ks : List ℕ) (x : Block) (h : n < length ks) where
  open_more : open_in (suc n) (set ks n (byte_of x)) ≡ x ∷ open_in n ks
  unfolding open_in
  open_more = rw (get_or-set_same ks n (byte_of x) 0 h, block_byte x, open_below ks n (byte_of x) n (omega arith)) refl

  known_more : kinds_known (suc n) (set ks n (byte_of x)) ≡ kinds_known n ks
  unfolding kinds_known
  known_more = rw (get_or-set_same ks n (byte_of x) 0 h, known_below ks n (byte_of x) n (omega arith), known_byte x) refl

pub sound_none : (k : ℕ) → Sound no_blocks k
unfolding no_blocks kinds_known open_in takes
sound_none k = record { top = omega arith; few = omega arith; known = refl; due = refl; slots = length-replicate {A = ℕ} 128 0 }

-- behind a token that ends at q
module _ (n : ℕ) (d₀ : declared.Due) (ks : List ℕ) (p q : ℕ) (h : p < q) (S : Sound (blocks n d₀ ks) p) (e : Due) where
  put : (M L : List Block) → M ≡ L → blocks_then (blocks n d₀ ks) L e ≡ blocks_then (blocks n d₀ ks) M (due_of (kept_due e))
  put M L f = ap (λ (N : List Block). blocks_then (blocks n d₀ ks) N e) (sym f) ∙ ap (blocks_then (blocks n d₀ ks) M) (sym (due_kept e))

  turned : {K L : List Block} → open_in n ks ≡ K → takes L e ≡ true → Turned K L → Sound (blocks_then (blocks n d₀ ks) L e) q
  turned f t (one_more {x} {K} l) =
      let g : blocks_then (blocks n d₀ ks) (x ∷ K) e ≡ blocks (n + 1) (kept_due e) (set ks n (byte_of x)) = put (x ∷ open_in n ks) (x ∷ K) (ap (λ (N : List Block). x ∷ N) f) ∙ (then_open n ks d₀ (kept_due e) x (byte_of x) refl) in
      let i : n < length ks = omega (arith, S.slots, ap length f, open_length ks n) in
      subst (λ (b : Blocks). Sound b q) (sym g) (record {
        top = omega (arith, ap length f, open_length ks n);
        few = omega (arith, S.few);
        known = rw add-one (known_more n ks x i ∙ S.known);
        due = rw (add-one, open_more n ks x i, due_kept e, f) t;
        slots = simp length-set S.slots;
      })
  turned f t (the_same {K}) =
      let g : blocks_then (blocks n d₀ ks) K e ≡ blocks n (kept_due e) ks = put (open_in n ks) K f ∙ (then_keep n ks d₀ (kept_due e)) in
      subst (λ (b : Blocks). Sound b q) (sym g) (record { top = S.top; few = omega (arith, S.few); known = S.known; due = rw (due_kept e, f) t; slots = S.slots })
  turned f t (one_less {x} {K}) =
      let z : n ≡ 0 → ⊥ = λ y. let u : length (open_in n ks) ≡ suc (length K) = ap length f in omega (arith, open_length ks n) in
      let i : open_in (n - 1) ks ≡ K = sym (around_is ks n z) ∙ ap around f in
      let m : suc (n - 1) ≡ n = omega arith in
      let g : blocks_then (blocks n d₀ ks) K e ≡ blocks (n - 1) (kept_due e) ks = put (around (open_in n ks)) K (ap around f) ∙ then_close n ks d₀ (kept_due e) z in
      subst (λ (b : Blocks). Sound b q) (sym g) (record {
        top = omega (arith, S.top);
        few = omega (arith, S.few);
        known = known_less ks (n - 1) (ap (λ (j : ℕ). kinds_known j ks) m ∙ S.known);
        due = rw (due_kept e, i) t;
        slots = S.slots;
      })

pub then_sound : (b : Blocks) (p q : ℕ) → p < q → Sound b p → (k : Kind) (L : List Block) (e : Due) → step (due_of b.due) (blocks_of b) k ≡ go L e → Sound (blocks_then b L e) q
then_sound b p q h S k L e f =
    let a : Apt (blocks_of b) (go L e) = rw f at (step_apt (due_of b.due) (blocks_of b) k S.due) in
    turned b.depth b.due b.kinds p q h S e refl a.0 a.1
