-- What the answer of a scan means.
use Rattle.std.specs.Prelude.{ℕ, Result, Ok, Err}
use Rattle.refusal.specs.Paper.{Paper, gives}
use Rattle.refusal.specs.Meaning.{unwhole_meaning}
use Rattle.refusal.specs.declared.Unwhole.{Unwhole}

-- the length of the first value, more bytes are needed, or a refusal
abbrev pub scan_meaning : Result ℕ Unwhole → Paper ℕ
scan_meaning (Ok len) = gives len
scan_meaning (Err e) = unwhole_meaning e
