-- The two fragments as the public page writes them, { item ";" } [ item ]: what the strict grammar's separators are held against.
use Rattle.std.specs.Prelude.{◌≡◌, ℕ, List}
use Rattle.refusal.specs.Paper.{gives, spot}
use Rattle.refusal.specs.declared.Format.{Format}
use Rattle.token.specs.declared.Kind.TheVariants.{Text, Equals, Semicolon}
use Rattle.lexer.specs.Lexer.{kind_at}
use Rattle.grammar.specs.Grammar.{strict, tree, Reads}

-- what stands from a place to another
abbrev pub Extent : Type 1
Extent = ℕ → ℕ → Type 0

-- { item ";" } [ item ]
pub data Fragment (f : Format) (s : List ℕ) (Item : Extent) : ℕ → ℕ → Type 0 where
  -- nothing
  empty : {p : ℕ} → Fragment f s Item p p
  -- the last item, with no `;` behind it
  last : {p q : ℕ} → Item p q → Fragment f s Item p q
  -- an item, `;`, and what follows
  then : {p n a m q : ℕ} → Item p n → kind_at f s n ≡ gives (spot Semicolon a m) → Fragment f s Item m q → Fragment f s Item p q

-- list-item = tree
abbrev pub ListItem : Format → List ℕ → ℕ → Extent
ListItem f s d p q = Reads strict f s tree d p q

-- key-value-pair = string "=" tree
pub record KeyValuePair (f : Format) (s : List ℕ) (d p q : ℕ) : Type 0 where
  pub first : ℕ
  pub behind_key : ℕ
  pub mark : ℕ
  pub behind_mark : ℕ
  pub key_is : kind_at f s p ≡ gives (spot Text first behind_key)
  pub equals_is : kind_at f s behind_key ≡ gives (spot Equals mark behind_mark)
  pub value_is : Reads strict f s tree d behind_mark q
