-- What each refusal means: the paper's number, and the values that it carries.
use Rattle.std.specs.Prelude.{ℕ, [], ◌∷◌, eqb}
use Rattle.refusal.specs.Numbers.{bad_byte, negative_length, long_varint, wide_varint, bad_hex_escape, bad_uint64, bad_double, bad_int64, unknown_word, not_value, not_key, not_equals, too_deep, not_string, malformed_record, cut_short, record_too_long, buffer_length, after_closing, offset_too_high, beyond_slice, short_output, strange_state, bad_call}
use Rattle.refusal.specs.Paper.{Paper, more, refused, pick}
use Rattle.refusal.specs.declared.Refusal.{Refusal}
use Rattle.refusal.specs.declared.Unread.{Unread}
use Rattle.refusal.specs.declared.Unread.TheVariants as u
use Rattle.refusal.specs.declared.Unwhole.{Unwhole}
use Rattle.refusal.specs.declared.Unwhole.TheVariants as w
use Rattle.refusal.specs.declared.Why.{Why}
use Rattle.refusal.specs.declared.Why.TheVariants.{BadByte, NegativeLength, LongVarint, WideVarint, BadHexEscape, BadUint64, BadDouble, BadInt64, UnknownWord, NotValue, NotKey, NotEquals, TooDeep}
use Rattle.refusal.specs.declared.Cause.{Cause}
use Rattle.refusal.specs.declared.Cause.TheVariants.{NotString, MalformedRecord, CutShort, RecordTooLong, BufferLength, AfterClosing, OffsetTooHigh, BeyondSlice, ShortOutput, StrangeState, BadCall}

-- the number of what is wrong
abbrev pub why_number : Why → ℕ
why_number BadByte = bad_byte
why_number NegativeLength = negative_length
why_number LongVarint = long_varint
why_number WideVarint = wide_varint
why_number BadHexEscape = bad_hex_escape
why_number BadUint64 = bad_uint64
why_number BadDouble = bad_double
why_number BadInt64 = bad_int64
why_number UnknownWord = unknown_word
why_number NotValue = not_value
why_number NotKey = not_key
why_number NotEquals = not_equals
why_number TooDeep = too_deep

abbrev pub refusal_at : Why → ℕ → Refusal
refusal_at w p = record { why = w; place = p }

-- the number of a refusal
abbrev pub number_of : Refusal → ℕ
number_of r = why_number r.why

-- 1 and 10 to 12 carry their own place, 2 to 9 and 13 that of the token's first byte, or of the varint's where a varint is read alone
abbrev pub place_of : Refusal → ℕ
place_of r = r.place

-- a refusal as an answer: its number, and its place
abbrev pub refusal_meaning : {A : Type 0} → Refusal → Paper A
refusal_meaning r = refused (number_of r) (place_of r ∷ [])

-- what is wrong by its number; no other number than 1 to 13 is asked
unfoldable pub why_of : ℕ → Why
why_of k =
    pick (eqb k bad_byte) BadByte
    (pick (eqb k negative_length) NegativeLength
    (pick (eqb k long_varint) LongVarint
    (pick (eqb k wide_varint) WideVarint
    (pick (eqb k bad_hex_escape) BadHexEscape
    (pick (eqb k bad_uint64) BadUint64
    (pick (eqb k bad_double) BadDouble
    (pick (eqb k bad_int64) BadInt64
    (pick (eqb k unknown_word) UnknownWord
    (pick (eqb k not_value) NotValue
    (pick (eqb k not_key) NotKey
    (pick (eqb k not_equals) NotEquals
    TooDeep)))))))))))

-- the refusal of a number at a place
abbrev pub named_by : ℕ → ℕ → Refusal
named_by k p = refusal_at (why_of k) p

-- the same refusal at another place
abbrev pub moved_to : ℕ → Refusal → Refusal
moved_to p r = refusal_at r.why p

-- why nothing was read at a place: more bytes are needed, a refusal, or 26
abbrev pub unread_meaning : {A : Type 0} → Unread → Paper A
unread_meaning u.Incomplete = more
unread_meaning (u.Refused r) = refusal_meaning r
unread_meaning u.Beyond = refused beyond_slice []

-- the same with a refusal at another place
abbrev pub unread_at : ℕ → Unread → Unread
unread_at p u.Incomplete = u.Incomplete
unread_at p (u.Refused r) = u.Refused (moved_to p r)
unread_at p u.Beyond = u.Beyond

-- why there is no whole value: more bytes are needed, or a refusal
abbrev pub unwhole_meaning : {A : Type 0} → Unwhole → Paper A
unwhole_meaning w.Incomplete = more
unwhole_meaning (w.Refused r) = refusal_meaning r

-- the number of a cause
abbrev pub call_number_of : Cause → ℕ
call_number_of NotString = not_string
call_number_of MalformedRecord = malformed_record
call_number_of CutShort = cut_short
call_number_of RecordTooLong = record_too_long
call_number_of BufferLength = buffer_length
call_number_of AfterClosing = after_closing
call_number_of OffsetTooHigh = offset_too_high
call_number_of BeyondSlice = beyond_slice
call_number_of ShortOutput = short_output
call_number_of StrangeState = strange_state
call_number_of BadCall = bad_call
