use mathlib.Core.Path.{ap}
use native.Mathlib.Omega.{arith}
use lib.ListN.{length}
use Rattle.varint.proofs.Write.{last, step}
use Rattle.varint.proofs.uvarint_len.Goals as goal

pub loop-rest-preserved : goal.loop-rest-preserved
loop-rest-preserved c = omega (arith, ap length (step c.loop-rest.rest c.loop-rest-test.true))

pub returns : goal.returns
returns c = omega (arith, ap length (last c.loop-rest.rest (omega arith)))
