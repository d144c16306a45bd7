-- `double_token` meets its contract.
use mathlib.Core.Path.{◌∙◌, sym, ap, ap₂}
use Prim.Native.Nat.{ℕ, ◌+◌, ◌-◌}
use native.Mathlib.Omega.{arith}
use lib.ListN.{length}
use lib.Ieee.{Float, of_bits, binary64}
use borrow.Author.Tests.{le-ltb}
use Rattle.refusal.specs.Paper.{gives, spot}
use Rattle.token.specs.declared.Token.TheVariants.{Double}
use Rattle.binary.specs.Binary.{double_at}
use Rattle.binary.proofs.Laws.{double_short}
use Rattle.binary.proofs.double_token.Goals as goal

pub returns-then-input-p-lt8 : goal.returns-then-input-p-lt8
returns-then-input-p-lt8 c = sym (double_short c.args.input.now c.args.at (omega arith))

pub returns : goal.returns
unfolding double_at
returns c =
    let x = c.args in
    let b = c.word_at-bits.ensures in
    ap₂ (λ (v : Float) (n : ℕ). gives (spot (Double v n) x.at (x.at + 9))) (c.float_of.ensures ∙ ap (of_bits binary64) b) b
    ∙ sym (rw (le-ltb (length x.input.now - x.at) 9 (omega arith)))
