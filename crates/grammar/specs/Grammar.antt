-- The public grammar of YSON as a relation: which part of a value stands from a place p to a place q, with d blocks open around it.
-- It speaks of tokens alone, and what a token is the token reader says. Each way in which a block's separators may be looser than the
-- public page has them is a flag with a name. The limit on open blocks holds for the strict and the loose grammar.
use Rattle.std.specs.Prelude.{◌≡◌, ℕ, suc, ◌<◌, Bool, true, false, List, T}
use Rattle.refusal.specs.Paper.{gives, spot}
use Rattle.refusal.specs.declared.Format.{Format}
use Rattle.token.specs.declared.Kind.TheVariants.{Text, Scalar, OpenList, CloseList, OpenMap, CloseMap, OpenAttributes, CloseAttributes, Equals, Semicolon}
use Rattle.lexer.specs.Lexer.{kind_at}
use Rattle.automaton.specs.Limit.{most_open}

-- how loose a reader is about the separators of a block
pub record Looseness : Type 0 where
  -- leading: a `;` may stand first in a block
  pub leading : Bool
  -- repeated: a `;` may follow a `;`
  pub repeated : Bool
  -- missing: a `;` may be missing between two items
  pub missing : Bool

-- the public grammar: exactly one `;` between items, one after the last is allowed, none elsewhere
abbrev pub strict : Looseness
strict = record { leading = false; repeated = false; missing = false }

-- the Rust, and so the port: separators may be missing, repeated or stand first in a block
abbrev pub loose : Looseness
loose = record { leading = true; repeated = true; missing = true }

-- where in a block: at its opening, behind an item, behind a `;`
pub data Slot : Type 0 where
  opening filled parted : Slot

-- may a `;` stand there?
abbrev pub may_part : Looseness → Slot → Bool
may_part l opening = l.leading
may_part l filled = true
may_part l parted = l.repeated

-- may an item stand there?
abbrev pub may_fill : Looseness → Slot → Bool
may_fill l opening = true
may_fill l filled = l.missing
may_fill l parted = true

-- tree: a value; object: a value with no attributes; items and pairs: a list-fragment and a map-fragment, from somewhere in a block on
pub data Shape : Type 0 where
  tree object : Shape
  items pairs : Slot → Shape

pub data Reads (l : Looseness) (f : Format) (s : List ℕ) : Shape → ℕ → ℕ → ℕ → Type 0 where
  -- tree = object
  plain : {d p q : ℕ} → Reads l f s object d p q → Reads l f s tree d p q
  -- tree = "<" map-fragment ">" object
  attributed : {d p a n m b o q : ℕ} → kind_at f s p ≡ gives (spot OpenAttributes a n) → d < most_open → Reads l f s (pairs opening) (suc d) n m → kind_at f s m ≡ gives (spot CloseAttributes b o) → Reads l f s object d o q → Reads l f s tree d p q
  -- object = string
  string : {d p a q : ℕ} → kind_at f s p ≡ gives (spot Text a q) → Reads l f s object d p q
  -- object = int64 | uint64 | double | boolean | entity
  scalar : {d p a q : ℕ} → kind_at f s p ≡ gives (spot Scalar a q) → Reads l f s object d p q
  -- object = "[" list-fragment "]"
  a_list : {d p a n m b q : ℕ} → kind_at f s p ≡ gives (spot OpenList a n) → d < most_open → Reads l f s (items opening) (suc d) n m → kind_at f s m ≡ gives (spot CloseList b q) → Reads l f s object d p q
  -- object = "{" map-fragment "}"
  a_map : {d p a n m b q : ℕ} → kind_at f s p ≡ gives (spot OpenMap a n) → d < most_open → Reads l f s (pairs opening) (suc d) n m → kind_at f s m ≡ gives (spot CloseMap b q) → Reads l f s object d p q
  -- a list-fragment may end anywhere
  items_end : {v : Slot} {d p : ℕ} → Reads l f s (items v) d p p
  -- list-item = tree
  item : {v : Slot} {d p n q : ℕ} → T (may_fill l v) → Reads l f s tree d p n → Reads l f s (items filled) d n q → Reads l f s (items v) d p q
  -- ";" in a list-fragment
  items_part : {v : Slot} {d p a n q : ℕ} → T (may_part l v) → kind_at f s p ≡ gives (spot Semicolon a n) → Reads l f s (items parted) d n q → Reads l f s (items v) d p q
  -- a map-fragment may end anywhere
  pairs_end : {v : Slot} {d p : ℕ} → Reads l f s (pairs v) d p p
  -- key-value-pair = string "=" tree
  pair : {v : Slot} {d p a n b m k q : ℕ} → T (may_fill l v) → kind_at f s p ≡ gives (spot Text a n) → kind_at f s n ≡ gives (spot Equals b m) → Reads l f s tree d m k → Reads l f s (pairs filled) d k q → Reads l f s (pairs v) d p q
  -- ";" in a map-fragment
  pairs_part : {v : Slot} {d p a n q : ℕ} → T (may_part l v) → kind_at f s p ≡ gives (spot Semicolon a n) → Reads l f s (pairs parted) d n q → Reads l f s (pairs v) d p q
