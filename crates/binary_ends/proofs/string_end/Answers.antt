-- `string_end` meets its contract: only 01 starts a string.
use mathlib.Core.Path.{◌∙◌, sym, ap}
use Prim.Native.Nat.{◌+◌}
use native.Mathlib.Omega.{arith}
use Rattle.varint.specs.Signed.{varint_at}
use Rattle.token.specs.Meaning.{kinds_of}
use Rattle.token.specs.Ends.{string_end}
use Rattle.binary.specs.Binary.{marked}
use Rattle.binary.proofs.Laws.{ended, inside}
use Rattle.binary_ends.proofs.Ends.{length_string, no_string}
use Rattle.binary_ends.proofs.string_end.Goals as goal

pub returns-then-input-at : goal.returns-then-input-at
returns-then-input-at c = let x = c.args in sym (ap (λ p. string_end (kinds_of p)) (ended x.input.now x.at c.if-input-at.true))

pub returns-then-input-at-eq1 : goal.returns-then-input-at-eq1
unfolding marked
returns-then-input-at-eq1 c =
    let x = c.args in
    let s = x.input.now in
    c.string_at_end.ensures ∙ sym (length_string s x.at (varint_at s (x.at + 1)))
    ∙ sym (ap (λ p. string_end (kinds_of p)) (inside s x.at (omega arith) ∙ ap (marked s x.at) c.if-input-at-eq1.true))

pub returns : goal.returns
returns c =
    let x = c.args in
    let s = x.input.now in
    sym (ap (λ p. string_end (kinds_of p)) (inside s x.at (omega arith)) ∙ no_string s x.at _ c.if-input-at-eq1.false)
