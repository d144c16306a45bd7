-- The open blocks and their bytes. Assumes nothing.
use mathlib.Core.Path.{◌≡◌, refl, sym, ap, ap₂, ◌∙◌}
use mathlib.Core.Bool.{Bool, true, false, not, ◌&&◌}
use mathlib.Core.List.{List, [], ◌∷◌}
use Prim.Native.Nat.{ℕ, zero, suc, ◌+◌, ◌-◌, ◌≤◌, ◌<◌}
use native.Mathlib.Omega.{arith}
use lib.Dec.{eqb, eqb-suc-zero}
use native.Mathlib.Numerals.{add-one}
use lib.ListN.{length, get_or, set, take}
use Rattle.std.specs.List.{list_all}
use Rattle.std.proofs.lemmas.List.{length-take-le, get_or-take}
use Rattle.std.proofs.lemmas.List.Folds.{list_all_more}
use Rattle.std.proofs.Math.Bool.{and_comm}
use borrow.Author.Tests.{ne_eqb, lt-ltb, le-ltb, le-leb}
use Rattle.refusal.specs.Numbers.{not_value, not_key}
use Rattle.refusal.specs.Paper.{pick}
use Rattle.automaton.specs.Limit.{most_open}
use Rattle.automaton.specs.Step.{Block, list, map, attributes, go, wrong, key, after, end_list, end_map}
use Rattle.kept.specs.declared.Blocks.{Blocks}
use Rattle.kept.specs.declared.Due.{Due}
use Rattle.kept.specs.declared.Due.TheVariants.{Value, Object, Item, Key, Equals}
use Rattle.kept.specs.Kept.{block_of, byte_of, open_in, around, due_of, kept_due, innermost, kinds_then, blocks_then, kind_known, kinds_known, in_list, in_pairs, due_fits, blocks_fit}

-- ---- the stack

pub open_none : (ks : List ℕ) (n : ℕ) → n ≡ 0 → open_in n ks ≡ []
unfolding open_in
open_none ks n e = ap (λ (m : ℕ). open_in m ks) e

pub open_some : (ks : List ℕ) (n : ℕ) → (n ≡ 0 → ⊥) → open_in n ks ≡ block_of (get_or ks (n - 1) 0) ∷ open_in (n - 1) ks
unfolding open_in
open_some ks zero h = absurd (h refl)
open_some ks (suc n) h = let e : suc n - 1 ≡ n = omega arith in rw e refl

pub open_length : (ks : List ℕ) (n : ℕ) → length (open_in n ks) ≡ n
unfolding open_in
open_length ks zero = refl
open_length ks (suc n) = ap suc (open_length ks n)

-- a byte's block, by the code's tests
pub is_list : (k : ℕ) → k ≡ 1 → block_of k ≡ list
unfolding block_of
is_list k e = ap block_of e

pub is_map : (k : ℕ) → k ≡ 2 → block_of k ≡ map
unfolding block_of
is_map k e = ap block_of e

pub is_attributes : (k : ℕ) → (k ≡ 1 → ⊥) → (k ≡ 2 → ⊥) → block_of k ≡ attributes
unfolding block_of
is_attributes k h g = rw (ne_eqb k 1 h, ne_eqb k 2 g)

-- the innermost block of some, by the byte of its slot
module _ (ks : List ℕ) (n : ℕ) (h : n ≡ 0 → ⊥) where
  pub on_list : get_or ks (n - 1) 0 ≡ 1 → open_in n ks ≡ list ∷ open_in (n - 1) ks
  on_list e = open_some ks n h ∙ ap (λ (x : Block). x ∷ open_in (n - 1) ks) (is_list _ e)

  pub on_map : get_or ks (n - 1) 0 ≡ 2 → open_in n ks ≡ map ∷ open_in (n - 1) ks
  on_map e = open_some ks n h ∙ ap (λ (x : Block). x ∷ open_in (n - 1) ks) (is_map _ e)

  pub on_attributes : (get_or ks (n - 1) 0 ≡ 1 → ⊥) → (get_or ks (n - 1) 0 ≡ 2 → ⊥) → open_in n ks ≡ attributes ∷ open_in (n - 1) ks
  on_attributes f g = open_some ks n h ∙ ap (λ (x : Block). x ∷ open_in (n - 1) ks) (is_attributes _ f g)

  pub around_is : around (open_in n ks) ≡ open_in (n - 1) ks
  around_is = ap around (open_some ks n h)

-- no list: a map or attributes
pub after_other : (k : ℕ) → (k ≡ 1 → ⊥) → (K : List Block) → after (block_of k ∷ K) ≡ go (block_of k ∷ K) key
unfolding after block_of
after_other k h K = rw (ne_eqb k 1 h) (by (eqb k 2))
  where
    by : (q : Bool) → after (pick q map attributes ∷ K) ≡ go (pick q map attributes ∷ K) key
    by true = refl
    by false = refl

pub list_other : (k : ℕ) → (k ≡ 1 → ⊥) → (K : List Block) → end_list (block_of k ∷ K) ≡ wrong not_value
unfolding end_list block_of
list_other k h K = rw (ne_eqb k 1 h) (by (eqb k 2))
  where
    by : (q : Bool) → end_list (pick q map attributes ∷ K) ≡ wrong not_value
    by true = refl
    by false = refl

pub map_other : (k : ℕ) → (k ≡ 2 → ⊥) → (K : List Block) → end_map (block_of k ∷ K) ≡ wrong not_key
unfolding end_map block_of
map_other k h K = rw (ne_eqb k 2 h) (by (eqb k 1))
  where
    by : (q : Bool) → end_map (pick q list attributes ∷ K) ≡ wrong not_key
    by true = refl
    by false = refl

-- the innermost block is a list by its byte, and where it is none it takes keys
pub in_list_is : (ks : List ℕ) (n : ℕ) → in_list (open_in n ks) ≡ (not (eqb n 0) && eqb (get_or ks (n - 1) 0) 1)
unfolding open_in block_of
in_list_is ks zero = refl
in_list_is ks (suc n) = let e : suc n - 1 ≡ n = omega arith in rw (e, eqb-suc-zero n) (by (eqb (get_or ks n 0) 1) (eqb (get_or ks n 0) 2))
  where
    by : (p q : Bool) → in_list (pick p list (pick q map attributes) ∷ open_in n ks) ≡ p
    by true q = refl
    by false true = refl
    by false false = refl

pub in_pairs_is : (ks : List ℕ) (n : ℕ) → in_pairs (open_in n ks) ≡ (not (eqb n 0) && not (in_list (open_in n ks)))
unfolding open_in block_of
in_pairs_is ks zero = refl
in_pairs_is ks (suc n) = rw (eqb-suc-zero n) (by (eqb (get_or ks n 0) 1) (eqb (get_or ks n 0) 2))
  where
    by : (p q : Bool) → in_pairs (pick p list (pick q map attributes) ∷ open_in n ks) ≡ not (in_list (pick p list (pick q map attributes) ∷ open_in n ks))
    by true q = refl
    by false true = refl
    by false false = refl

-- the same bytes are the same blocks
open_same : (ks ls : List ℕ) (n : ℕ) → ((i : ℕ) → i < n → get_or ks i 0 ≡ get_or ls i 0) → open_in n ks ≡ open_in n ls
unfolding open_in
open_same ks ls zero h = refl
open_same ks ls (suc n) h = ap₂ (λ (k : ℕ) (K : List Block). block_of k ∷ K) (h n (omega arith)) (open_same ks ls n (λ i l. h i (omega arith)))

-- as many bytes as blocks are open hold them all
pub open_taken : (ks : List ℕ) (n : ℕ) → n ≤ length ks → open_in (length (take n ks)) (take n ks) ≡ open_in n ks
open_taken ks n h = rw length-take-le (open_same (take n ks) ks n (λ i l. get_or-take n ks i 0 l))

-- ---- known kinds

-- those of the open blocks alone
pub known_all : (ks : List ℕ) (n : ℕ) → n ≤ length ks → list_all kind_known (take n ks) ≡ kinds_known n ks
unfolding kinds_known
known_all ks zero h = refl
known_all ks (suc n) h =
    ap (λ (m : ℕ). list_all kind_known (take m ks)) (sym (add-one n)) ∙ list_all_more kind_known ks n 0 h ∙ rw (known_all ks n (omega arith)) (and_comm (kinds_known n ks) (kind_known (get_or ks n 0)))

-- the kind of a block is known, and so are those of fewer blocks
pub known_byte : (x : Block) → kind_known (byte_of x) ≡ true
unfolding byte_of kind_known
known_byte list = refl
known_byte map = refl
known_byte attributes = refl

pub known_less : (ks : List ℕ) (n : ℕ) → kinds_known (suc n) ks ≡ true → kinds_known n ks ≡ true
unfolding kinds_known
known_less ks n e = by (kind_known (get_or ks n 0)) e
  where
    by : (t : Bool) → t && kinds_known n ks ≡ true → kinds_known n ks ≡ true
    by true e = e
    by false e = cc

-- ---- 28's tests of the blocks

module _ (b : Blocks) (passed : ℕ) (i : b.depth ≤ most_open) (j : b.depth ≤ passed) where
  pub by_due : kinds_known b.depth b.kinds ≡ true → blocks_fit b passed ≡ due_fits b
  unfolding blocks_fit
  by_due h = rw (le-leb b.depth most_open i, le-leb b.depth passed j, h) refl

-- ---- what a token leaves

pub kept_due_lem : (d : Due) → kept_due (due_of d) ≡ d
kept_due_lem Value = refl
kept_due_lem Object = refl
kept_due_lem Item = refl
kept_due_lem Key = refl
kept_due_lem Equals = refl

abbrev pub blocks : ℕ → Due → List ℕ → Blocks
blocks n d ks = record { depth = n; due = d; kinds = ks }

module _ (n : ℕ) (ks : List ℕ) (d₀ d : Due) where
  abbrev b₀ : Blocks
  b₀ = blocks n d₀ ks

  pub then_open : (x : Block) (k : ℕ) → k ≡ byte_of x → blocks_then b₀ (x ∷ open_in n ks) (due_of d) ≡ blocks (n + 1) d (set ks n k)
  unfolding kinds_then innermost
  then_open x k e =
      let l : suc (length (open_in n ks)) ≡ n + 1 = omega (arith, open_length ks n) in
      rw (lt-ltb n (suc (length (open_in n ks))) (omega arith), l, kept_due_lem d, e) refl

  pub then_close : (n ≡ 0 → ⊥) → blocks_then b₀ (around (open_in n ks)) (due_of d) ≡ blocks (n - 1) d ks
  unfolding kinds_then
  then_close h = rw (around_is ks n h, open_length ks (n - 1), le-ltb n (n - 1) (omega arith), kept_due_lem d) refl

  pub then_keep : blocks_then b₀ (open_in n ks) (due_of d) ≡ blocks n d ks
  unfolding kinds_then
  then_keep = rw (open_length ks n, le-ltb n n (omega arith), kept_due_lem d) refl
