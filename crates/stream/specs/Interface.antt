-- What the theorems about streams ask of a token reader. Another format, or another profile, is put in place by giving this record for it.
use Rattle.std.specs.Prelude.{◌≡◌, ℕ, ◌≤◌, List, ◌++◌, length, drop}
use Rattle.refusal.specs.Paper.{more}
use Rattle.blocks.specs.Readings.{Reader, Grows}

-- unless more bytes are needed, bytes behind change nothing
abbrev pub Settles : Reader → Type 0
Settles t = (s u : List ℕ) (p : ℕ) → p ≤ length s → (t s p ≡ more → ⊥) → t (s ++ u) p ≡ t s p

-- bytes before the place do not matter
abbrev pub Unread : Reader → Type 0
Unread t = (s u : List ℕ) (p : ℕ) → length s ≡ length u → drop p s ≡ drop p u → t s p ≡ t u p

pub record TokenReader (t : Reader) : Type 0 where
  -- a token takes a byte at least, and none that is not there
  pub grows : Grows t
  pub settled : Settles t
  pub unread : Unread t
