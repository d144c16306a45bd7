-- What each answer of this crate means: the paper's number and values.
use Rattle.std.specs.Prelude.{ℕ, [], ℤ, Result, Ok, Err}
use Rattle.refusal.specs.Numbers.{short_output}
use Rattle.refusal.specs.Paper.{Paper, gives, refused, Got, got}
use Rattle.refusal.specs.Meaning.{unread_meaning}
use Rattle.refusal.specs.declared.Unread.{Unread}
use Rattle.varint.specs.declared.Varint.{Varint}
use Rattle.varint.specs.declared.ShortOutput.{ShortOutput}

-- a number and the place after it, more bytes are needed, or a refusal
abbrev pub number_meaning : {A : Type 0} → Result (Varint A) Unread → Paper (Got A)
number_meaning (Ok v) = gives (got v.value v.next)
number_meaning (Err e) = unread_meaning e

abbrev pub uvarint_meaning : Result (Varint ℕ) Unread → Paper (Got ℕ)
uvarint_meaning r = number_meaning r

abbrev pub varint_meaning : Result (Varint ℤ) Unread → Paper (Got ℤ)
varint_meaning r = number_meaning r

-- how many bytes were written, or 27
abbrev pub written_meaning : Result ℕ ShortOutput → Paper ℕ
written_meaning (Ok count) = gives count
written_meaning (Err e) = refused short_output []
