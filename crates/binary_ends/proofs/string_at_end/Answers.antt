-- `string_at_end` meets its contract: a length of one byte, and any other by the varint reader.
use mathlib.Core.Path.{◌∙◌, sym, ap}
use Prim.Native.Nat.{ℕ, ◌+◌}
use Rattle.zigzag.specs.Zigzag.{signed}
use Rattle.varint.specs.Meaning.{uvarint_meaning}
use Rattle.varint.proofs.Read.{one_byte}
use Rattle.varint.proofs.Round.{within}
use Rattle.token.specs.Ends.{end_of}
use Rattle.binary.specs.Binary.{of_size}
use Rattle.binary_ends.proofs.Ends.{by_length, by_unread}
use Rattle.binary_ends.proofs.string_at_end.Goals as goal

pub returns-then-b-lt128 : goal.returns-then-b-lt128
returns-then-b-lt128 c =
    let x = c.args in
    let s = x.input.now in
    c.sized_end.ensures ∙ ap (λ (v : ℕ). end_of (of_size s 0 (x.at + 1 + 1) (signed v))) c.from.ensures
    ∙ by_length s x.at _ _ (one_byte s (x.at + 1) c.if-p-input.true c.if-b-lt128.true)

pub sized_end-requires-in-Ok : goal.sized_end-requires-in-Ok
sized_end-requires-in-Ok c =
    let x = c.args in
    (within x.input.now (x.at + 1) _ _ (sym c.read_uvarint.ensures ∙ ap uvarint_meaning c.in-Ok.is)).1

pub returns-in-Ok : goal.returns-in-Ok
returns-in-Ok c =
    let x = c.args in
    c.sized_end-in-Ok.ensures
    ∙ by_length x.input.now x.at _ _ (sym c.read_uvarint.ensures ∙ ap uvarint_meaning c.in-Ok.is)

pub returns-in-Err : goal.returns-in-Err
returns-in-Err c =
    let x = c.args in
    by_unread x.input.now x.at _ (sym c.read_uvarint.ensures ∙ ap uvarint_meaning c.in-Err.is)
