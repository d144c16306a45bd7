-- `yson_scan` meets its contract: each way of the code is a way of the call, and a scanned length fits.
use mathlib.Core.Path.{◌≡◌, sym, subst, ap, ◌∙◌}
use native.Mathlib.Omega.{arith}
use Rattle.refusal.specs.declared.Format.TheVariants.{Binary, Text}
use Rattle.abi.specs.Call.{signed, Fitting}
use Rattle.abi.proofs.Negated.{held}
use Rattle.refusal.specs.Numbers.{bad_call}
use Rattle.refusal.specs.Paper.{refused}
use mathlib.Core.List.{[]}
use Rattle.abi.proofs.Scans.{scan_fits, call_long, call_strange, call_binary, call_text}
use Rattle.abi.proofs.yson_scan.Goals as goal

-- No slice is so long today, so the prover would take any answer here: this one says what the definition says of such a length.
pub returns-then-bytes-gt-MOST_BYTES : goal.returns-then-bytes-gt-MOST_BYTES
returns-then-bytes-gt-MOST_BYTES c =
    let a = c.args in
    let answer : _ ≡ signed (refused bad_call []) = c.minus.ensures in
    held _ c.minus.type_inv ∙ answer ∙ ap signed (sym (call_long a.format a.bytes.now (omega arith)))

pub number-requires : goal.number-requires
number-requires c = subst Fitting (sym c.scan_value.ensures) (scan_fits Binary _ (omega arith))

pub returns-then-format-eq-BINARY : goal.returns-then-format-eq-BINARY
returns-then-format-eq-BINARY c = held _ c.number.type_inv ∙ c.number.ensures ∙ ap signed (c.scan_value.ensures ∙ sym (call_binary _ _ c.if-format-eq-BINARY.true (omega arith)))

pub number-requires-then-format-eq-TEXT : goal.number-requires-then-format-eq-TEXT
number-requires-then-format-eq-TEXT c = subst Fitting (sym c.scan_value-then-format-eq-TEXT.ensures) (scan_fits Text _ (omega arith))

pub returns-then-format-eq-TEXT : goal.returns-then-format-eq-TEXT
returns-then-format-eq-TEXT c = held _ c.number-then-format-eq-TEXT.type_inv ∙ c.number-then-format-eq-TEXT.ensures ∙ ap signed (c.scan_value-then-format-eq-TEXT.ensures ∙ sym (call_text _ _ c.if-format-eq-TEXT.true (omega arith)))

pub returns : goal.returns
returns c = held _ c.minus-2.type_inv ∙ c.minus-2.ensures ∙ ap signed (sym (call_strange _ _ c.if-format-eq-BINARY.false c.if-format-eq-TEXT.false))
