-- `read_varint` meets its contract: it is the unsigned reader's answer, with the number read as zigzag.
use Rattle.std.proofs.Common.{rules}
use Rattle.varint.specs.Signed.{varint_at}
use Rattle.varint.proofs.read_varint.Goals as goal

pub returns-in_err-value : goal.returns-in_err-value
unfolding varint_at
returns-in_err-value c = search rules

pub returns : goal.returns
unfolding varint_at
returns c = search rules
