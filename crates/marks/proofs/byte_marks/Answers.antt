-- `byte_marks` meets its contract: the masks mark each byte by itself.
use Rattle.marks.proofs.Masks.{filled, byted, rep_eight, unset_word}
use Rattle.word.proofs.Bytewise.{the}
use lib.Bits.{bit_and, bit_xor}
use native.Mathlib.Omega.{arith}
use Prim.Native.Nat.{ℕ, ◌*◌}
use mathlib.Core.Path.{◌≡◌, ap, ap₂, ◌∙◌}
use Rattle.marks.proofs.byte_marks.Goals as goal

pub returns : goal.returns
returns c =
    let w = c.word_at-w.result in
    let differing : _ ≡ filled the 8 (bit_xor w (c.from.result * 72340172838076673)) = c.filled-f.ensures in
    unset_word _ (omega arith)
    ∙ ap (λ (x : ℕ). bit_and (bit_xor x 18446744073709551615) 9259542123273814144) (differing ∙ ap (filled the 8) (ap₂ bit_xor c.word_at-w.ensures (ap (λ (b : ℕ). b * 72340172838076673) c.from.ensures ∙ rep_eight _)))
    ∙ byted _ (omega arith) _ (λ i. omega (arith, c.type_inv.s i)) 8 _
