-- `fast_end` meets its contract: few digits, or a double, with no number text behind settle where a number ends. Assumes nothing.
use mathlib.Core.Path.{◌≡◌, sym, ap, ◌∙◌}
use mathlib.Core.Bool.{true, false}
use Prim.Native.Nat.{◌≤◌, ◌-◌}
use native.Mathlib.Omega.{arith}
use borrow.Author.Tests.{eq-eqb, ne_eqb, not-true}
use lib.Dec.{eqb}
use Rattle.std.proofs.Common.{rules, drop, get_or}
use Rattle.number.specs.Bytes.{is_minus, is_sign, is_pointed, is_text, is_unsigned, starts}
use Rattle.number.proofs.Ends.{starts_at, starts_out, where_true, where_kept}
use Rattle.number.proofs.Fast.{bare, fast_int, fast_unsigned, fast_double}
use Rattle.number.proofs.fast_end.Goals.{then-contains, else-contains}
use Rattle.number.proofs.fast_end.Goals.{in_default-via-in-Some-2+else-is_sign, in_default-via-in_default}
use Rattle.number.proofs.fast_end.Goals as goal

pub returns-after-contains : goal.returns-after-contains
returns-after-contains c =
    let s = c.args.input.now in
    let at = c.args.at in
    let a = c.sign_end-a in
    let b = c.digits_end-b in
    let y = c.in-Some-eq117.ensures.lookup.3 in
    let u = starts_at s b.result y.0 is_unsigned ∙ eq-eqb _ _ (sym (y.1 0) ∙ c.in-Some-eq117.field-0-test) in
    rw c.then_some.ensures
    (where_true _ _ _ (elim c.if-contains.branch [
      | then-contains w ↦ λ (q : c.if-contains.then_some ≡ true).
          let m = w.then_some-is in
          let not_minus : eqb (get_or s at 0) 45 ≡ false = not-true _ (sym m ∙ q) in
          let n : (1 ≤ b.result - a.result) × (b.result - a.result ≤ 19) = search rules in
          fast_unsigned s at a.result b.result a.ensures b.ensures u (omega arith) (omega arith) (starts_at s at (omega (arith, a.ensures.low, y.0)) is_minus ∙ not_minus)
      | else-contains w ↦ λ (q : c.if-contains.then_some ≡ true). let m = w.then_some-is in let n = w.if-contains.false in cc
    ]))

pub returns-in-Some : goal.returns-in-Some
returns-in-Some c =
    let s = c.args.input.now in
    let z = c.in-Some.ensures.lookup.3 in
    where_kept _ _ _ _ c.filter.ensures (λ x e k. fast_double s c.args.at _ _ c.sign_end-a.ensures c.digits_end-b.ensures z.0 (ap is_pointed (sym (z.1 0)) ∙ sym c.if-is_pointed.ensures) x (rw e at c.double_end.ensures) (search rules))

pub returns-in_default : goal.returns-in_default
returns-in_default c =
    let s = c.args.input.now in
    let b = c.digits_end-b.result in
    let n : starts is_text (drop b s) ≡ false =
    elim c.in_default.branch [
      | in_default-via-in-Some-2+else-is_sign w ↦
          let y = w.in-Some.ensures.lookup.3 in
          let k = sym (y.1 0) in
          bare s c.args.at _ b c.sign_end-a.ensures c.digits_end-b.ensures y.0 (ap is_sign k ∙ sym w.if-is_sign.ensures) (ap is_pointed k ∙ sym w.if-is_pointed.ensures)
      | in_default-via-in_default w ↦ starts_out s b (rw w.in_default.is at c.get.ensures.lookup).3 is_text
    ] in
    let u : starts is_unsigned (drop b s) ≡ false =
    elim c.in_default.branch [
      | in_default-via-in-Some-2+else-is_sign w ↦
          let y = w.in-Some.ensures.lookup.3 in
          let h = w.in-Some.field-0-test in
          let k = w.in-Some.field-0-is in
          starts_at s b y.0 is_unsigned ∙ ne_eqb _ _ (λ z. h.1 (cc (y.1 0)))
      | in_default-via-in_default w ↦ starts_out s b (rw w.in_default.is at c.get.ensures.lookup).3 is_unsigned
    ] in
    rw c.then_some-in_default.ensures
    (where_true _ _ _ (λ (q : c.contains-in_default.result ≡ true).
    let k : (1 ≤ b - c.sign_end-a.result) × (b - c.sign_end-a.result ≤ 18) = search rules in
    fast_int s c.args.at _ b c.sign_end-a.ensures c.digits_end-b.ensures n (omega arith) (omega arith) u))
