-- `past_text` meets its contract: one pair after another, with what is ignored between.
use native.Mathlib.Omega.{arith}
use Rattle.refusal.specs.declared.Format.TheVariants.{Text}
use Rattle.scan.proofs.Tokens.{skip_on}
use Rattle.scan.proofs.Pairs.{along_pair, along_next, pair_grows}
use Rattle.scan.proofs.past_text.Goals as goal

pub returns-then-input-q : goal.returns-then-input-q
returns-then-input-q c = along_pair Text _ _ _ _ _ _ c.loop-key.invariant c.in-Some.ensures c.skip-p.ensures c.if-input-p.false c.if-input-p-ne61.false c.in-Some-value_end.ensures

pub returns-then-input-q-ne59 : goal.returns-then-input-q-ne59
returns-then-input-q-ne59 c = along_pair Text _ _ _ _ _ _ c.loop-key.invariant c.in-Some.ensures c.skip-p.ensures c.if-input-p.false c.if-input-p-ne61.false c.in-Some-value_end.ensures

pub loop-key-smaller : goal.loop-key-smaller
loop-key-smaller c = let g = pair_grows Text _ _ _ _ _ _ c.loop-key.invariant c.in-Some.ensures c.skip-p.ensures c.if-input-p.false c.if-input-p-ne61.false c.in-Some-value_end.ensures in let k = skip_on Text _ _ _ c.skip-q.ensures in omega (arith, g.0, g.1, k)

pub loop-key-preserved : goal.loop-key-preserved
loop-key-preserved c = along_next Text _ _ _ _ _ _ c.loop-key.invariant c.in-Some.ensures c.skip-p.ensures c.if-input-p.false c.if-input-p-ne61.false c.in-Some-value_end.ensures _ c.skip-q.ensures c.if-input-q.false c.if-input-q-ne59.false
