-- `short_string_end` meets its contract: a length of one byte, and 0 for any other.
use mathlib.Core.Path.{◌∙◌, sym, ap}
use Prim.Native.Nat.{ℕ, ◌+◌}
use Rattle.zigzag.specs.Zigzag.{signed}
use Rattle.varint.specs.Signed.{varint_at}
use Rattle.varint.proofs.Read.{one_byte}
use Rattle.token.specs.Meaning.{kinds_of}
use Rattle.token.specs.Ends.{end_of, string_end}
use Rattle.binary.specs.Binary.{of_size, marked}
use Rattle.binary.proofs.Laws.{ended, inside}
use Rattle.binary_ends.proofs.Ends.{by_length, length_string, no_string}
use Rattle.binary_ends.proofs.Short.{short_none, short_cut, short_long, short_here}
use Rattle.binary_ends.proofs.short_string_end.Goals as goal

pub returns-then-input-at : goal.returns-then-input-at
returns-then-input-at c = let x = c.args in sym (short_none x.input.now x.at (ap (λ p. string_end (kinds_of p)) (ended x.input.now x.at c.if-input-at.true)))

pub returns-then-input-at-ne1 : goal.returns-then-input-at-ne1
returns-then-input-at-ne1 c =
    let x = c.args in
    let s = x.input.now in
    sym (short_none s x.at (ap (λ p. string_end (kinds_of p)) (inside s x.at c.if-input-at.false) ∙ no_string s x.at _ c.if-input-at-ne1.true))

pub returns-then-input-p : goal.returns-then-input-p
returns-then-input-p c = let x = c.args in sym (short_cut x.input.now x.at c.if-input-p.true)

pub returns-then-b-ge128 : goal.returns-then-b-ge128
returns-then-b-ge128 c = let x = c.args in sym (short_long x.input.now x.at c.if-b-ge128.true)

pub returns : goal.returns
unfolding marked
returns c =
    let x = c.args in
    let s = x.input.now in
    c.sized_end.ensures ∙ ap (λ (v : ℕ). end_of (of_size s 0 (x.at + 1 + 1) (signed v))) c.from.ensures
    ∙ by_length s x.at _ _ (one_byte s (x.at + 1) c.if-input-p.false c.if-b-ge128.false)
    ∙ sym (length_string s x.at (varint_at s (x.at + 1)))
    ∙ sym (ap (λ p. string_end (kinds_of p)) (inside s x.at c.if-input-at.false ∙ ap (marked s x.at) c.if-input-at-ne1.false))
    ∙ sym (short_here s x.at c.if-input-p.false c.if-b-ge128.false)
