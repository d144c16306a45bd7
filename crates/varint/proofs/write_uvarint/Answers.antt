use mathlib.Core.Path.{◌≡◌, ap, sym, ◌∙◌}
use Prim.Native.Nat.{ℕ, ◌-◌}
use native.Mathlib.Omega.{arith}
use native.Mathlib.Numerals.{add-one}
use lib.ListN.{length, length-set}
use lib.Seq.{sets}
use mathlib.Core.List.{List}
use Rattle.refusal.specs.Paper.{gives}
use Rattle.varint.proofs.Write.{last, step, short, fits, some, long, short_one}
use Rattle.varint.proofs.write_uvarint.Goals as goal

pub returns-then-out-n-clause-answer : goal.returns-then-out-n-clause-answer
returns-then-out-n-clause-answer c =
    let h = short c.args.out.now c.args.value (omega arith) in
    sym h.0

pub returns-then-out-n-clause-bytes : goal.returns-then-out-n-clause-bytes
returns-then-out-n-clause-bytes c =
    let h = short c.args.out.now c.args.value (omega arith) in
    sym h.1

pub overflow_sub-p-end : goal.overflow_sub-p-end
overflow_sub-p-end c = omega (arith, some c.args.value)

pub loop-p-preserved : goal.loop-p-preserved
loop-p-preserved c =
    let l = c.loop-p in
    let e = step l.rest (long l.rest (omega arith)) in (
      simp length-set l.invariant.0,
      omega (arith, ap length e),
      rw (add-one l.p) (sym (ap (λ (t : List ℕ). sets l.out l.p t) e) ∙ l.invariant.2),
    )

pub overflow_cast-out-2 : goal.overflow_cast-out-2
overflow_cast-out-2 c = record { fits = let h = short_one c.loop-p.rest (omega (arith, some c.args.value, some c.loop-p.rest)) in omega arith }

pub overflow_sub-out : goal.overflow_sub-out
overflow_sub-out c = omega (arith, some c.args.value)

pub bounds-out-n : goal.bounds-out-n
bounds-out-n c = omega (arith, some c.args.value)

pub returns-clause-answer : goal.returns-clause-answer
returns-clause-answer c =
    let h = fits c.args.out.now c.args.value (omega arith) in
    ap gives c.uvarint_len-n.ensures ∙ sym h.0

pub returns-clause-bytes : goal.returns-clause-bytes
returns-clause-bytes c =
    let l = c.loop-p in
    let h = fits c.args.out.now c.args.value (omega arith) in
    let e : l.p ≡ c.uvarint_len-n.result - 1 = omega (arith, some l.rest) in
    let k = last l.rest (short_one l.rest (omega (arith, some c.args.value, some l.rest))) in
    rw (sym e) (sym (ap (λ (t : List ℕ). sets l.out l.p t) k) ∙ l.invariant.2 ∙ sym h.1)
