-- `mantissa_end` meets its contract. Assumes nothing.
use mathlib.Core.Path.{◌≡◌, sym, ◌∙◌}
use mathlib.Core.Bool.{false}
use native.Mathlib.Omega.{arith}
use borrow.Author.Tests.{eq-eqb, ne_eqb, ltb-true, ltb-false}
use lib.ListN.{drop}
use Rattle.std.proofs.lemmas.Bool.Decides.{nat_tests}
use Rattle.number.specs.Bytes.{is_point, starts}
use Rattle.number.proofs.Ends.{starts_at, starts_out, tested, plain_some, plain_none, pointed_some, pointed_none}
use Rattle.number.proofs.grammar.mantissa_end.Goals.{in_default-via-in-Some+in_default, in_default-via-in_default}
use Rattle.number.proofs.grammar.mantissa_end.Goals as goal

pub returns-in-Some-eq46 : goal.returns-in-Some-eq46
returns-in-Some-eq46 c =
    let y = c.in-Some-eq46.ensures.lookup.3 in
    let e = eq-eqb _ _ (sym (y.1 0) ∙ c.in-Some-eq46.field-0-test) in
    let d = c.digits_end-d.ensures in
    rw c.then_some.ensures
    (tested _ _ _ _ _ (λ q. pointed_some _ _ _ c.requires y.0 e _ d (grind (arith, nat_tests))) (λ q. pointed_none _ _ _ c.requires y.0 e _ d (grind (arith, nat_tests))) (omega (arith, y.0, d.high, c.requires.low)))

pub returns-in_default : goal.returns-in_default
returns-in_default c =
    let s = c.args.s.now in
    let b = c.args.b in
    let n : starts is_point (drop b s) ≡ false =
    elim c.in_default.branch [
      | in_default-via-in-Some+in_default w ↦
          let y = (rw w.in_default.is at c.get.ensures.lookup).3 in
          let h = w.in_default.field-0-test in
          let k = w.in_default.field-0-is in
          starts_at s b y.0 is_point ∙ ne_eqb _ _ (λ z. h.1 (cc (y.1 0)))
      | in_default-via-in_default w ↦ starts_out s b (rw w.in_default.is at c.get.ensures.lookup).3 is_point
    ] in
    rw c.then_some-in_default.ensures
    (tested _ _ _ _ _ (λ q. plain_some _ _ _ c.requires n (ltb-true _ _ q)) (λ q. plain_none _ _ _ c.requires n (ltb-false _ _ q)) c.requires.high)
