-- The ways through a peek. Assumes nothing.
use mathlib.Core.Path.{◌≡◌, ◌∙◌}
use Prim.Native.Nat.{ℕ, ◌≤◌, ◌<◌}
use mathlib.Core.List.{List, []}
use lib.ListN.{length, get_or}
use borrow.Author.Tests.{lt-ltb, le-ltb}
use Rattle.refusal.specs.Numbers.{beyond_slice}
use Rattle.refusal.specs.Paper.{gives, more, refused}
use Rattle.refusal.specs.declared.Format.{Format}
use Rattle.lexer.specs.Lexer.{skip_of}
use Rattle.cursor.specs.Cursor.{byte_here, byte_at}

module _ (f : Format) (s : List ℕ) (at : ℕ) where
  pub peek_beyond : length s < at → byte_at f s at ≡ refused beyond_slice []
  unfolding byte_at
  peek_beyond h = rw (lt-ltb (length s) at h)

  module _ (place : ℕ) (h : at ≤ length s) (e : place ≡ skip_of f s at) where
    here : byte_at f s at ≡ byte_here s place
    unfolding byte_at
    here = rw (le-ltb (length s) at h, e)

    pub peek_finds : place < length s → byte_at f s at ≡ gives (get_or s place 0, place)
    unfolding byte_here
    peek_finds g = here ∙ rw (lt-ltb place (length s) g)

    pub peek_ends : length s ≤ place → byte_at f s at ≡ more
    unfolding byte_here
    peek_ends g = here ∙ rw (le-ltb place (length s) g)
