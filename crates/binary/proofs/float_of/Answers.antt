-- `float_of` meets its contract: the patterns that are a NaN's are told apart, and the rest goes by its bits.
use mathlib.Core.Path.{◌∙◌, sym}
use native.Mathlib.Omega.{arith}
use Rattle.binary.proofs.Nan.{made, is_nan, no_nan}
use Rattle.binary.proofs.float_of.Goals as goal

pub returns-then-bits-gt9218868437227405312 : goal.returns-then-bits-gt9218868437227405312
returns-then-bits-gt9218868437227405312 c = made ∙ sym (is_nan _ c.if-bits-gt9218868437227405312.true (omega arith))

pub float_from_bits-result : goal.float_from_bits-result
float_from_bits-result c = no_nan _ c.if-bits-gt9218868437227405312.false
