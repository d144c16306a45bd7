-- The answer where marks are the only tokens, by where the place lies. Assumes nothing.
use mathlib.Core.Path.{◌≡◌}
use mathlib.Core.List.{List, []}
use Prim.Native.Nat.{ℕ, ◌≤◌, ◌<◌}
use native.Mathlib.Omega.{arith}
use lib.ListN.{length, get_or}
use borrow.Author.Tests.{lt-ltb, le-ltb}
use Rattle.refusal.specs.Numbers.{beyond_slice}
use Rattle.refusal.specs.Paper.{more, refused}
use Rattle.token.specs.Marks.{mark_of, of_mark, mark_at}

module _ (s : List ℕ) (at : ℕ) where
  pub mark_beyond : length s < at → mark_at s at ≡ refused beyond_slice []
  unfolding mark_at
  mark_beyond h = rw (lt-ltb (length s) at h)

  pub mark_ended : at ≤ length s → length s ≤ at → mark_at s at ≡ more
  unfolding mark_at
  mark_ended h k = rw (le-ltb (length s) at h, le-ltb at (length s) k)

  pub mark_inside : at < length s → mark_at s at ≡ of_mark at (mark_of (get_or s at 0))
  unfolding mark_at
  mark_inside h = rw (le-ltb (length s) at (omega arith), lt-ltb at (length s) h)
