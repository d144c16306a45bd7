-- `quote_marks` meets its contract: the masks mark each byte by itself.
use Rattle.marks.proofs.Masks.{filled, quotes, quoted, unset_word}
use Rattle.word.proofs.Bytewise.{the}
use lib.Bits.{bit_and, bit_xor, and_le_l}
use native.Mathlib.Omega.{arith}
use Prim.Native.Nat.{ℕ}
use mathlib.Core.Path.{◌≡◌, ap, ap₂, ◌∙◌}
use Rattle.marks.proofs.quote_marks.Goals as goal

pub returns : goal.returns
returns c =
    let w = c.word_at-w.result in
    let quote : _ ≡ filled the 8 (bit_xor w 0x2222_2222_2222_2222) = c.filled.ensures in
    let backslash : _ ≡ filled the 8 (bit_xor w 0x5c5c_5c5c_5c5c_5c5c) = c.filled-2.ensures in
    unset_word _ (omega (arith, and_le_l c.filled.result c.filled-2.result))
    ∙ ap₂ (λ (x y : ℕ). bit_and (bit_xor (bit_and x y) 18446744073709551615) 9259542123273814144) quote backslash
    ∙ ap (quotes 8) c.word_at-w.ensures
    ∙ quoted _ (λ i. omega (arith, c.type_inv.s i)) 8 _
