-- `size_of` meets its contract: a string by its length, and the others by the lowest mark.
use mathlib.Core.Path.{◌∙◌, sym, ap}
use Prim.Native.Nat.{ℕ}
use native.Mathlib.Omega.{arith}
use Rattle.token.specs.Meaning.{kinds_of}
use Rattle.token.specs.Ends.{scalar_end}
use Rattle.binary.specs.Binary.{marked}
use Rattle.binary_ends.proofs.Sizes.{scalar_string, other_size}
use Rattle.binary_ends.proofs.size_of.Goals as goal

pub returns-then-b-eq1 : goal.returns-then-b-eq1
returns-then-b-eq1 c =
    λ z l.
    let x = c.args in
    let s = x.input.now in
    let g = c.by_length-string.ensures z in
    scalar_string s x.at _ (omega (arith, c.requires.0)) g.0 g.1 g.2 l
    ∙ ap (λ (b : ℕ). scalar_end (kinds_of (marked s x.at b))) (sym c.if-b-eq1.true)

pub returns : goal.returns
returns c =
    λ z l.
    let x = c.args in
    let s = x.input.now in
    other_size s x.at (λ i. omega (arith, c.type_inv.input i)) c.requires.0 _ c.last_marks.ensures
    x.b _ _ _ _ c.if-b-eq1.false c.requires.1 c.requires.2 c.marks_for-marks.ensures c.low_mark.ensures.0
    c.by_last.ensures c.by_flag-size.ensures z
