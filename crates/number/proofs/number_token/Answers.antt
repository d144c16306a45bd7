-- `number_token` meets its contract: the part that it judges is the text of the number. Assumes nothing.
use mathlib.Core.Path.{◌≡◌, sym, ap, ◌∙◌}
use mathlib.Core.Bool.{Bool, true, false}
use mathlib.Core.List.{List}
use Prim.Native.Nat.{ℕ, ◌+◌, ◌-◌, ◌≤◌, ◌<◌}
use native.Mathlib.Omega.{arith}
use borrow.Author.Tests.{eq-eqb, ne_eqb}
use lib.ListN.{length, take, drop}
use Rattle.number.specs.Bytes.{is_text, is_pointed, is_unsigned, starts, any}
use Rattle.number.specs.Grammar.{front, past}
use Rattle.number.specs.Number.{number_at, uint64_text, double_text, int64_text}
use Rattle.number.proofs.Ends.{starts_at, starts_out}
use Rattle.number.proofs.Tokens.{beyond, ended, text_part, text_uint, text_double, text_int}
use Rattle.number.specs.Places.{Leaves}
use Rattle.number.proofs.number_token.Goals.{in_default-via-in-Some+in_default, in_default-via-in_default}
use Rattle.number.proofs.number_token.Goals as goal

-- behind the test for a point: the part is the text, which ends at `end`, and no `u` stands behind it
module _ (s : List ℕ) (at end : ℕ) (h : at < length s) (l : Leaves s at (past is_text (drop at s)) end) (bare : starts is_unsigned (drop end s) ≡ false) where
  high : end ≤ length s
  high = omega (arith, l.high)

  part : take (end - at) (drop at s) ≡ front is_text (drop at s)
  part = text_part s at h end l.low high l.rest

  pointed : {b : Bool} → any is_pointed (take (end - at) (drop at s)) ≡ b → any is_pointed (front is_text (drop at s)) ≡ b
  pointed e = ap (any is_pointed) (sym part) ∙ e

  is_double_lem : any is_pointed (take (end - at) (drop at s)) ≡ true → double_text at end (take (end - at) (drop at s)) ≡ number_at s at
  is_double_lem e = ap (double_text at end) part ∙ text_double s at h end l.low high l.rest bare (pointed e)

  is_int : any is_pointed (take (end - at) (drop at s)) ≡ false → int64_text at end (take (end - at) (drop at s)) ≡ number_at s at
  is_int e = ap (int64_text at end) part ∙ text_int s at h end l.low high l.rest bare (pointed e)

pub returns-then-input-at : goal.returns-then-input-at
returns-then-input-at c = beyond _ _ (omega arith)

pub returns-then-input-at-2 : goal.returns-then-input-at-2
returns-then-input-at-2 c = ended _ _ c.if-input-at-2.true

pub returns-in-Some-eq117 : goal.returns-in-Some-eq117
returns-in-Some-eq117 c =
    let s = c.args.input.now in
    let at = c.args.at in
    let e = c.text_end-end.result in
    let h : at < length s = omega arith in
    let low : at ≤ e = c.text_end-end.ensures.low in
    let high : e ≤ length s = omega (arith, c.text_end-end.ensures.high) in
    let r = c.text_end-end.ensures.rest in
    let y = c.in-Some-eq117.ensures.lookup.3 in
    c.uint_token.ensures
    ∙ ap (uint64_text at (e + 1)) (text_part s at h e low high r)
    ∙ text_uint s at h e low high r (starts_at s e y.0 is_unsigned ∙ eq-eqb _ _ (sym (y.1 0) ∙ c.in-Some-eq117.field-0-test))

pub returns-in_default : goal.returns-in_default
returns-in_default c =
    let s = c.args.input.now in
    let end = c.text_end-end.result in
    let bare : starts is_unsigned (drop end s) ≡ false =
    elim c.in_default.branch [
      | in_default-via-in-Some+in_default w ↦
          let y = (rw w.in_default.is at c.get.ensures.lookup).3 in
          let h = w.in_default.field-0-test in
          let k = w.in_default.field-0-is in
          starts_at s end y.0 is_unsigned ∙ ne_eqb _ _ (λ z. h.1 (cc (y.1 0)))
      | in_default-via-in_default w ↦ starts_out s end (rw w.in_default.is at c.get.ensures.lookup).3 is_unsigned
    ] in
    c.double_token.ensures ∙ is_double_lem s c.args.at end (omega arith) c.text_end-end.ensures bare (sym c.if-has_point.ensures)

pub returns-in_default-2 : goal.returns-in_default-2
returns-in_default-2 c =
    let s = c.args.input.now in
    let end = c.text_end-end.result in
    let bare : starts is_unsigned (drop end s) ≡ false =
    elim c.in_default.branch [
      | in_default-via-in-Some+in_default w ↦
          let y = (rw w.in_default.is at c.get.ensures.lookup).3 in
          let h = w.in_default.field-0-test in
          let k = w.in_default.field-0-is in
          starts_at s end y.0 is_unsigned ∙ ne_eqb _ _ (λ z. h.1 (cc (y.1 0)))
      | in_default-via-in_default w ↦ starts_out s end (rw w.in_default.is at c.get.ensures.lookup).3 is_unsigned
    ] in
    c.int_token.ensures ∙ is_int s c.args.at end (omega arith) c.text_end-end.ensures bare (sym c.if-has_point.ensures)
