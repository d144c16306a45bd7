-- Strings whose length is one byte, case by case. Assumes nothing.
use mathlib.Core.Path.{◌≡◌, refl}
use mathlib.Core.Bool.{Bool, true, false}
use mathlib.Core.List.{List}
use Prim.Native.Nat.{ℕ, ◌+◌, ◌≤◌, ◌<◌}
use lib.Dec.{ltb}
use Rattle.std.specs.Prelude.{Option, Some, None}
use lib.ListN.{length, get_or}
use borrow.Author.Tests.{lt-ltb, le-ltb}
use Rattle.refusal.specs.Paper.{pick}
use Rattle.token.specs.Meaning.{kinds_of}
use Rattle.token.specs.Ends.{string_end}
use Rattle.binary.specs.Binary.{binary_from}
use Rattle.binary_ends.specs.Short.{short_string_end}

-- two tests before an end
either_none : (a b : Bool) (x : Option ℕ) → x ≡ None → pick a (pick b x None) None ≡ None
either_none true true x e = e
either_none true false x e = refl
either_none false b x e = refl

some_is : (a b : Bool) (x : Option ℕ) (n : ℕ) → Some n ≡ pick a (pick b x None) None → Some n ≡ x
some_is true true x n e = e
some_is true false x n e = absurd cc
some_is false b x n e = absurd cc

module _ (s : List ℕ) (at : ℕ) where
  -- no string stands there
  pub short_none : string_end (kinds_of (binary_from s at)) ≡ None → short_string_end s at ≡ None
  unfolding short_string_end
  short_none e = either_none (ltb (at + 1) (length s)) (ltb (get_or s (at + 1) 0) 128) _ e

  -- no byte stands behind the marker
  pub short_cut : length s ≤ at + 1 → short_string_end s at ≡ None
  unfolding short_string_end
  short_cut h = rw (le-ltb (at + 1) (length s) h)

  -- the byte there is not the whole length
  pub short_long : 128 ≤ get_or s (at + 1) 0 → short_string_end s at ≡ None
  unfolding short_string_end
  short_long h = rw (le-ltb (get_or s (at + 1) 0) 128 h) (by (ltb (at + 1) (length s)))
    where
      by : (q : Bool) → ◌≡◌ {A = Option ℕ} (pick q None None) None
      by true = refl
      by false = refl

  -- it is
  pub short_here : at + 1 < length s → get_or s (at + 1) 0 < 128 → short_string_end s at ≡ string_end (kinds_of (binary_from s at))
  unfolding short_string_end
  short_here h g = rw (lt-ltb (at + 1) (length s) h, lt-ltb (get_or s (at + 1) 0) 128 g)

  -- an end that is given is the string's
  pub short_string : (n : ℕ) → Some n ≡ short_string_end s at → Some n ≡ string_end (kinds_of (binary_from s at))
  unfolding short_string_end
  short_string n e = some_is (ltb (at + 1) (length s)) (ltb (get_or s (at + 1) 0) 128) _ n e
