-- The C call: one signed number from a format number and some bytes.
use Rattle.std.specs.Prelude.{ℕ, ◌≤◌, Bool, not, ◌||◌, List, [], eqb, ltb, ℤ, pos, neg_ℤ, length}
use Rattle.refusal.specs.Numbers.{bad_call}
use Rattle.refusal.specs.Paper.{Paper, gives, more, refused, pick}
use Rattle.refusal.specs.declared.Format.{Format}
use Rattle.refusal.specs.declared.Format.TheVariants.{Binary, Text}
use Rattle.scan.specs.Walk.{scan_of}

-- format numbers: 0 (binary) and 1 (text)
abbrev pub binary : ℕ
binary = 0

abbrev pub text : ℕ
text = 1

-- format number neither 0 (binary) nor 1 (text)
abbrev pub no_format : ℕ → Bool
no_format format = not (eqb format binary || eqb format text)

-- the most bytes that are scanned: 2^63 - 1
abbrev pub most_bytes : ℕ
most_bytes = 9223372036854775807

-- over 2^63 - 1 bytes
abbrev pub too_long : List ℕ → Bool
too_long s = ltb most_bytes (length s)

-- the format of a number that has one
abbrev pub format_of : ℕ → Format
format_of format = pick (eqb format binary) Binary Text

-- 29 before the scan
unfoldable pub call_of : ℕ → List ℕ → Paper ℕ
call_of format s = pick (no_format format || too_long s) (refused bad_call []) (scan_of (format_of format) s)

-- one signed number: the length, 0 for Incomplete, or minus the refusal number
abbrev pub signed : Paper ℕ → ℤ
signed (gives n) = pos n
signed more = pos 0
signed (refused n vs) = neg_ℤ (pos n)

-- what the host gets
abbrev pub call_number : ℕ → List ℕ → ℤ
call_number format s = signed (call_of format s)

-- a length that a signed number of 64 bits holds
unfoldable pub Fitting : Paper ℕ → Type 0
Fitting (gives n) = n ≤ most_bytes
Fitting more = Unit {0}
Fitting (refused n vs) = Unit {0}
