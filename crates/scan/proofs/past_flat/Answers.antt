-- `past_flat` meets its contract: one pair after another.
use native.Mathlib.Omega.{arith}
use Rattle.refusal.specs.declared.Format.TheVariants.{Binary}
use Rattle.binary_ends.proofs.Short.{short_string}
use Rattle.scan.proofs.Pairs.{bare, key_ends, value_ends, along_pair, along_next, pair_grows}
use Rattle.scan.proofs.past_flat.Goals as goal

pub returns-then-input-end : goal.returns-then-input-end
returns-then-input-end c = along_pair Binary _ _ _ _ _ _ c.loop-key.invariant (key_ends _ _ _ (short_string _ _ _ c.in-Some.ensures)) (bare _ _) c.if-input-key.false (omega arith) (value_ends _ _ _ c.in-Some-scalar_end.ensures)

pub returns-then-input-end-ne59 : goal.returns-then-input-end-ne59
returns-then-input-end-ne59 c = along_pair Binary _ _ _ _ _ _ c.loop-key.invariant (key_ends _ _ _ (short_string _ _ _ c.in-Some.ensures)) (bare _ _) c.if-input-key.false (omega arith) (value_ends _ _ _ c.in-Some-scalar_end.ensures)

pub loop-key-smaller : goal.loop-key-smaller
loop-key-smaller c = let g = pair_grows Binary _ _ _ _ _ _ c.loop-key.invariant (key_ends _ _ _ (short_string _ _ _ c.in-Some.ensures)) (bare _ _) c.if-input-key.false (omega arith) (value_ends _ _ _ c.in-Some-scalar_end.ensures) in omega (arith, g.0, g.1)

pub loop-key-preserved : goal.loop-key-preserved
loop-key-preserved c = along_next Binary _ _ _ _ _ _ c.loop-key.invariant (key_ends _ _ _ (short_string _ _ _ c.in-Some.ensures)) (bare _ _) c.if-input-key.false (omega arith) (value_ends _ _ _ c.in-Some-scalar_end.ensures) _ (bare _ _) c.if-input-end.false c.if-input-end-ne59.false
