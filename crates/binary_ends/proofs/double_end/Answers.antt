-- `double_end` meets its contract.
use mathlib.Core.Path.{sym, refl}
use Prim.Native.Nat.{◌-◌}
use lib.ListN.{length}
use borrow.Author.Tests.{lt-ltb, le-ltb}
use Rattle.binary.specs.Binary.{double_at}
use Rattle.binary_ends.proofs.double_end.Goals as goal

pub returns-then-input-at-lt9 : goal.returns-then-input-at-lt9
unfolding double_at
returns-then-input-at-lt9 c = let x = c.args in sym (rw (lt-ltb (length x.input.now - x.at) 9 c.if-input-at-lt9.true))

pub returns : goal.returns
unfolding double_at
returns c = let x = c.args in sym (rw (le-ltb (length x.input.now - x.at) 9 c.if-input-at-lt9.false) refl)
