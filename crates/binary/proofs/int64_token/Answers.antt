use Rattle.std.proofs.Common.{rules}
use Rattle.varint.specs.Signed.{varint_at}
use Rattle.binary.proofs.int64_token.Goals as goal

pub returns-in_err-value : goal.returns-in_err-value
unfolding varint_at
returns-in_err-value c = search rules

pub returns : goal.returns
unfolding varint_at
returns c = search rules
