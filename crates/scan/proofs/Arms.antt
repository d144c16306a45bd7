-- The table of the automaton, row by row, as the ways through the code read it: a way is told the kind, or which kinds it is not.
use mathlib.Core.Path.{◌≡◌, refl, ◌∙◌}
use Prim.Native.Nat.{ℕ}
use mathlib.Core.Bool.{Bool, true, false}
use mathlib.Core.List.{List, [], ◌∷◌}
use Rattle.refusal.specs.Numbers.{not_value, not_key, not_equals}
use Rattle.token.specs.declared.Kind.{Kind}
use Rattle.token.specs.declared.Kind.TheVariants.{Text, Scalar, OpenList, CloseList, OpenMap, CloseMap, OpenAttributes, CloseAttributes, Equals, Semicolon}
use Rattle.automaton.specs.Step.{Block, list, map, attributes, value, object, item, key, equals, go, wrong, after, closed, opened, on_object, on_value, on_item, on_key, on_equals, end_list, end_map, end_attributes, step}
use Rattle.scan.specs.Walk.{Cont, arrive}
use Rattle.scan.specs.Post.{block_of, due_of}

-- no attributes
pub plain : (k : Kind) → (k ≡ OpenAttributes → ⊥) → (K : List Block) → step value K k ≡ step object K k
unfolding step on_value on_object
plain Text h0 K = refl
plain Scalar h0 K = refl
plain OpenList h0 K = refl
plain CloseList h0 K = refl
plain OpenMap h0 K = refl
plain CloseMap h0 K = refl
plain OpenAttributes h0 K = absurd (h0 refl)
plain CloseAttributes h0 K = refl
plain Equals h0 K = refl
plain Semicolon h0 K = refl

-- neither `]` nor `;`
pub begins : (k : Kind) → (k ≡ CloseList → ⊥) → (k ≡ Semicolon → ⊥) → (K : List Block) → step item K k ≡ step value K k
unfolding step on_item on_value
begins Text h0 h1 K = refl
begins Scalar h0 h1 K = refl
begins OpenList h0 h1 K = refl
begins CloseList h0 h1 K = absurd (h0 refl)
begins OpenMap h0 h1 K = refl
begins CloseMap h0 h1 K = refl
begins OpenAttributes h0 h1 K = refl
begins CloseAttributes h0 h1 K = refl
begins Equals h0 h1 K = refl
begins Semicolon h0 h1 K = absurd (h1 refl)

-- no beginning of an object
pub no_object : (k : Kind) → (k ≡ Text → ⊥) → (k ≡ Scalar → ⊥) → (k ≡ OpenList → ⊥) → (k ≡ OpenMap → ⊥) → (K : List Block) → step object K k ≡ wrong not_value
unfolding step on_object
no_object Text h0 h1 h2 h3 K = absurd (h0 refl)
no_object Scalar h0 h1 h2 h3 K = absurd (h1 refl)
no_object OpenList h0 h1 h2 h3 K = absurd (h2 refl)
no_object CloseList h0 h1 h2 h3 K = refl
no_object OpenMap h0 h1 h2 h3 K = absurd (h3 refl)
no_object CloseMap h0 h1 h2 h3 K = refl
no_object OpenAttributes h0 h1 h2 h3 K = refl
no_object CloseAttributes h0 h1 h2 h3 K = refl
no_object Equals h0 h1 h2 h3 K = refl
no_object Semicolon h0 h1 h2 h3 K = refl

pub no_value : (b : Bool) (k : Kind) → (k ≡ OpenAttributes → ⊥) → (k ≡ Text → ⊥) → (k ≡ Scalar → ⊥) → (k ≡ OpenList → ⊥) → (k ≡ OpenMap → ⊥) → (K : List Block) → step (due_of b) K k ≡ wrong not_value
no_value true k h0 h1 h2 h3 h4 K = no_object k h1 h2 h3 h4 K
no_value false k h0 h1 h2 h3 h4 K = plain k h0 K ∙ no_object k h1 h2 h3 h4 K

-- neither a key nor a block's end nor `;`
pub no_key : (k : Kind) → (k ≡ Text → ⊥) → (k ≡ CloseMap → ⊥) → (k ≡ CloseAttributes → ⊥) → (k ≡ Semicolon → ⊥) → (K : List Block) → step key K k ≡ wrong not_key
unfolding step on_key
no_key Text h0 h1 h2 h3 K = absurd (h0 refl)
no_key Scalar h0 h1 h2 h3 K = refl
no_key OpenList h0 h1 h2 h3 K = refl
no_key CloseList h0 h1 h2 h3 K = refl
no_key OpenMap h0 h1 h2 h3 K = refl
no_key CloseMap h0 h1 h2 h3 K = absurd (h1 refl)
no_key OpenAttributes h0 h1 h2 h3 K = refl
no_key CloseAttributes h0 h1 h2 h3 K = absurd (h2 refl)
no_key Equals h0 h1 h2 h3 K = refl
no_key Semicolon h0 h1 h2 h3 K = absurd (h3 refl)

-- no `=`
pub no_equals : (k : Kind) → (k ≡ Equals → ⊥) → (K : List Block) → step equals K k ≡ wrong not_equals
unfolding step on_equals
no_equals Text h0 K = refl
no_equals Scalar h0 K = refl
no_equals OpenList h0 K = refl
no_equals CloseList h0 K = refl
no_equals OpenMap h0 K = refl
no_equals CloseMap h0 K = refl
no_equals OpenAttributes h0 K = refl
no_equals CloseAttributes h0 K = refl
no_equals Equals h0 K = absurd (h0 refl)
no_equals Semicolon h0 K = refl

-- beginnings
pub opens_attributes_lem : (b : Bool) → b ≡ false → (K : List Block) → step (due_of b) K OpenAttributes ≡ opened attributes key K
unfolding step on_value
opens_attributes_lem b e K = rw e

pub attributes_passed : (b : Bool) → b ≡ true → (K : List Block) → step (due_of b) K OpenAttributes ≡ wrong not_value
unfolding step on_object
attributes_passed b e K = rw e

pub opens_list : (b : Bool) (K : List Block) → step (due_of b) K OpenList ≡ opened list item K
unfolding step on_value on_object
opens_list true K = refl
opens_list false K = refl

pub opens_map : (b : Bool) (K : List Block) → step (due_of b) K OpenMap ≡ opened map key K
unfolding step on_value on_object
opens_map true K = refl
opens_map false K = refl

pub text_whole : (b : Bool) (K : List Block) → step (due_of b) K Text ≡ after K
unfolding step on_value on_object
text_whole true K = refl
text_whole false K = refl

pub scalar_whole : (b : Bool) (K : List Block) → step (due_of b) K Scalar ≡ after K
unfolding step on_value on_object
scalar_whole true K = refl
scalar_whole false K = refl

-- in a block
pub list_ends : (K : List Block) → step item (list ∷ K) CloseList ≡ closed list K
unfolding step on_item end_list
list_ends K = refl

pub item_next : (K : List Block) → step item K Semicolon ≡ go K item
unfolding step on_item
item_next K = refl

pub key_next : (K : List Block) → step key K Semicolon ≡ go K key
unfolding step on_key
key_next K = refl

pub key_is : (K : List Block) → step key K Text ≡ go K equals
unfolding step on_key
key_is K = refl

pub equals_is : (K : List Block) → step equals K Equals ≡ go K value
unfolding step on_equals
equals_is K = refl

module _ (b : Bool) (K : List Block) where
  pub map_ends : b ≡ false → step key (block_of b ∷ K) CloseMap ≡ closed (block_of b) K
  unfolding step on_key end_map
  map_ends h = rw h

  pub map_wrong : b ≡ true → step key (block_of b ∷ K) CloseMap ≡ wrong not_key
  unfolding step on_key end_map
  map_wrong h = rw h

  pub attributes_end : b ≡ true → step key (block_of b ∷ K) CloseAttributes ≡ closed (block_of b) K
  unfolding step on_key end_attributes
  attributes_end h = rw h

  pub attributes_wrong : b ≡ false → step key (block_of b ∷ K) CloseAttributes ≡ wrong not_key
  unfolding step on_key end_attributes
  attributes_wrong h = rw h

-- behind a value, and behind a block
pub after_item : (K : List Block) → after (list ∷ K) ≡ go (list ∷ K) item
unfolding after
after_item K = refl

pub after_key : (b : Bool) (K : List Block) → after (block_of b ∷ K) ≡ go (block_of b ∷ K) key
unfolding after
after_key true K = refl
after_key false K = refl

pub list_closed : (K : List Block) → closed list K ≡ after K
unfolding closed
list_closed K = refl

pub map_closed : (K : List Block) → closed map K ≡ after K
unfolding closed
map_closed K = refl

pub attributes_closed : (K : List Block) → closed attributes K ≡ go K object
unfolding closed
attributes_closed K = refl

-- neither asks for a token's first byte
pub arrive_after : (k : Cont) (first next : ℕ) (K : List Block) → arrive k first next (after K) ≡ arrive k next next (after K)
unfolding arrive after
arrive_after k first next [] = refl
arrive_after k first next (list ∷ K) = refl
arrive_after k first next (map ∷ K) = refl
arrive_after k first next (attributes ∷ K) = refl

pub arrive_closed : (k : Cont) (first next : ℕ) (b : Block) (K : List Block) → arrive k first next (closed b K) ≡ arrive k next next (closed b K)
unfolding arrive closed
arrive_closed k first next list K = arrive_after k first next K
arrive_closed k first next map K = arrive_after k first next K
arrive_closed k first next attributes K = refl
