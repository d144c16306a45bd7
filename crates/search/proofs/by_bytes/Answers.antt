-- `by_bytes` meets its contract: from each place that it passes, the place found is the same.
use Rattle.search.proofs.Laws.{first_out, first_here, first_more}
use native.Mathlib.Omega.{arith}
use mathlib.Core.Path.{◌≡◌, sym, ◌∙◌}
use Rattle.search.proofs.by_bytes.Goals as goal

pub returns-then-holds : goal.returns-then-holds
returns-then-holds g c = first_here (g.C.Class.is c.args.class) _ _ (omega arith) (sym c.holds.ensures ∙ c.if-holds.true) ∙ c.loop-p.invariant.1

pub loop-p-preserved : goal.loop-p-preserved
loop-p-preserved g c = (omega arith, first_more (g.C.Class.is c.args.class) _ _ (omega arith) (sym c.holds.ensures ∙ c.if-holds.false) ∙ c.loop-p.invariant.1)

pub returns : goal.returns
returns g c =
    let e : c.max.result ≡ c.loop-p.p = omega (arith, c.max.ensures) in
    e ∙ first_out (g.C.Class.is c.args.class) _ _ (omega arith) ∙ c.loop-p.invariant.1
