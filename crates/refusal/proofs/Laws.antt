-- No two refusals mean the same: a number and a place fix the case, and a number fixes the cause. Assumes nothing.
use mathlib.Core.Path.{◌≡◌, refl, sym, ap, ap₂, ◌∙◌}
use mathlib.Core.List.{[], ◌∷◌}
use Prim.Native.Nat.{ℕ, ◌≤◌, ◌<◌}
use lib.Dec.{eqb, lit≤}
use Rattle.refusal.specs.Numbers.{bad_byte, too_deep, not_string, malformed_record, cut_short, record_too_long, buffer_length, after_closing, offset_too_high, beyond_slice, short_output, strange_state}
use Rattle.refusal.specs.Paper.{Paper, refused, pick}
use Rattle.refusal.specs.Meaning.{why_number, why_of, refusal_at, number_of, place_of, refusal_meaning, named_by, moved_to, call_number_of}
use Rattle.refusal.specs.declared.Refusal.{Refusal}
use Rattle.refusal.specs.declared.Why.{Why}
use Rattle.refusal.specs.declared.Why.TheVariants.{BadByte, NegativeLength, LongVarint, WideVarint, BadHexEscape, BadUint64, BadDouble, BadInt64, UnknownWord, NotValue, NotKey, NotEquals, TooDeep}
use Rattle.refusal.specs.declared.Cause.{Cause}
use Rattle.refusal.specs.declared.Cause.TheVariants.{NotString, MalformedRecord, CutShort, RecordTooLong, BufferLength, AfterClosing, OffsetTooHigh, BeyondSlice, ShortOutput, StrangeState, BadCall}

-- what is wrong is that of its number
why_again : (w : Why) → why_of (why_number w) ≡ w
unfolding why_of
why_again BadByte = refl
why_again NegativeLength = refl
why_again LongVarint = refl
why_again WideVarint = refl
why_again BadHexEscape = refl
why_again BadUint64 = refl
why_again BadDouble = refl
why_again BadInt64 = refl
why_again UnknownWord = refl
why_again NotValue = refl
why_again NotKey = refl
why_again NotEquals = refl
why_again TooDeep = refl

-- a refusal is the one of its number at its place
pub named_by_its_number : (r : Refusal) → named_by (number_of r) (place_of r) ≡ r
named_by_its_number r = ap (λ w. refusal_at w r.place) (why_again r.why)

-- moving a refusal changes its place alone
pub moved_number : (q : ℕ) (r : Refusal) → number_of (moved_to q r) ≡ number_of r
moved_number q r = refl

pub moved_place : (q : ℕ) (r : Refusal) → place_of (moved_to q r) ≡ q
moved_place q r = refl

-- the numbers of refusals are 1 to 13
from_one : (w : Why) → bad_byte ≤ why_number w
from_one BadByte = lit≤ tt
from_one NegativeLength = lit≤ tt
from_one LongVarint = lit≤ tt
from_one WideVarint = lit≤ tt
from_one BadHexEscape = lit≤ tt
from_one BadUint64 = lit≤ tt
from_one BadDouble = lit≤ tt
from_one BadInt64 = lit≤ tt
from_one UnknownWord = lit≤ tt
from_one NotValue = lit≤ tt
from_one NotKey = lit≤ tt
from_one NotEquals = lit≤ tt
from_one TooDeep = lit≤ tt

pub number_from : (r : Refusal) → bad_byte ≤ number_of r
number_from r = from_one r.why

to_last : (w : Why) → why_number w ≤ too_deep
to_last BadByte = lit≤ tt
to_last NegativeLength = lit≤ tt
to_last LongVarint = lit≤ tt
to_last WideVarint = lit≤ tt
to_last BadHexEscape = lit≤ tt
to_last BadUint64 = lit≤ tt
to_last BadDouble = lit≤ tt
to_last BadInt64 = lit≤ tt
to_last UnknownWord = lit≤ tt
to_last NotValue = lit≤ tt
to_last NotKey = lit≤ tt
to_last NotEquals = lit≤ tt
to_last TooDeep = lit≤ tt

pub number_to : (r : Refusal) → number_of r ≤ too_deep
number_to r = to_last r.why

-- two refusals with one number and one place are one
pub same_refusal : (r q : Refusal) → number_of r ≡ number_of q → place_of r ≡ place_of q → r ≡ q
same_refusal r q n p = sym (named_by_its_number r) ∙ ap₂ named_by n p ∙ named_by_its_number q

-- what a refusal means in an answer fixes the refusal
pub refusal_injective : {A : Type 0} → (r q : Refusal) → ◌≡◌ {A = Paper A} (refusal_meaning r) (refusal_meaning q) → r ≡ q
refusal_injective r q e = same_refusal r q (cc) (cc)

-- the cause of a number
cause_by : ℕ → Cause
cause_by k =
    pick (eqb k not_string) NotString
    (pick (eqb k malformed_record) MalformedRecord
    (pick (eqb k cut_short) CutShort
    (pick (eqb k record_too_long) RecordTooLong
    (pick (eqb k buffer_length) BufferLength
    (pick (eqb k after_closing) AfterClosing
    (pick (eqb k offset_too_high) OffsetTooHigh
    (pick (eqb k beyond_slice) BeyondSlice
    (pick (eqb k short_output) ShortOutput
    (pick (eqb k strange_state) StrangeState
    BadCall)))))))))

caused : (c : Cause) → cause_by (call_number_of c) ≡ c
unfolding cause_by
caused NotString = refl
caused MalformedRecord = refl
caused CutShort = refl
caused RecordTooLong = refl
caused BufferLength = refl
caused AfterClosing = refl
caused OffsetTooHigh = refl
caused BeyondSlice = refl
caused ShortOutput = refl
caused StrangeState = refl
caused BadCall = refl

pub cause_injective : (c d : Cause) → call_number_of c ≡ call_number_of d → c ≡ d
cause_injective c d e = sym (caused c) ∙ ap cause_by e ∙ caused d

-- no cause has the number of a refusal
pub cause_above : (c : Cause) → too_deep < call_number_of c
cause_above NotString = lit≤ tt
cause_above MalformedRecord = lit≤ tt
cause_above CutShort = lit≤ tt
cause_above RecordTooLong = lit≤ tt
cause_above BufferLength = lit≤ tt
cause_above AfterClosing = lit≤ tt
cause_above OffsetTooHigh = lit≤ tt
cause_above BeyondSlice = lit≤ tt
cause_above ShortOutput = lit≤ tt
cause_above StrangeState = lit≤ tt
cause_above BadCall = lit≤ tt

-- a refusal that was moved, as an answer
pub moved_meaning : {A : Type 0} → (q : ℕ) (r : Refusal) → ◌≡◌ {A = Paper A} (refusal_meaning (moved_to q r)) (refused (number_of r) (q ∷ []))
moved_meaning q r = ap₂ (λ (n p : ℕ). refused n (p ∷ [])) (moved_number q r) (moved_place q r)
