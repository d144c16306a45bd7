-- Promise 3: the records, offsets and last answer are those of the whole stream, and the readings are the tokens passed and one for each
-- next that hands out no record and leaves a buffered byte unpassed. Assumes nothing.
use mathlib.Core.Path.{◌≡◌, refl, sym, ap, ◌∙◌}
use mathlib.Core.Bool.{Bool, false}
use mathlib.Core.List.{List}
use Prim.Native.Nat.{ℕ, ◌+◌, ◌-◌, ◌≤◌}
use native.Mathlib.Omega.{arith}
use lib.ListN.{length, get_or}
use borrow.Author.Tests.{le-leb, lt-leb}
use Rattle.refusal.specs.Paper.{Paper, gives, more, pick}
use Rattle.kept.specs.Kept.{no_blocks}
use Rattle.blocks.specs.Readings.{Reader, read_by, binary}
use Rattle.places.specs.Places.{least_buffer, most_buffer, most_offset}
use Rattle.reader.specs.Meaning.{Handed, ended}
use Rattle.reader.specs.Calls.{open_of, mark_of}
use Rattle.stream.specs.Interface.{TokenReader}
use Rattle.stream.specs.Whole.{Out, item, last, framed, whole_by, whole}
use Rattle.stream.specs.Tokens.{further, rest_tokens, whole_tokens}
use Rattle.stream.specs.Drive.{Heard, Trace, heard, stopped, drive_by, drive, joined, enough, Caller, trace_of, out_with, out_of, readings_of, lefts_of}
use Rattle.stream.proofs.Binary.{binary_reader}
use Rattle.stream.proofs.Scan.{read_is_scan}
use Rattle.stream.proofs.Records.{any_offset}
use Rattle.stream.proofs.Telling.{Telling}
use Rattle.stream.proofs.Cut.{opened_says}

-- a trace's records and last answer
out_with_lem : (h : Heard) (r : Trace) (a : Paper Handed) → h.answer ≡ a → out_of (heard h r) ≡ out_with a h.bytes (out_of r)
unfolding out_of
out_with_lem h r a e = ap (λ (x : Paper Handed). out_with x h.bytes (out_of r)) e

telling_out : (n : ℕ) → Telling n Out
unfolding framed
telling_out n = record {
  end = last (gives ended);
  one = λ c w R o on. framed w n o R on;
  add = λ c x. x;
  add_none = λ x. refl;
  add-one = λ c d w R o on. refl;
  Says = λ r x. out_of r ≡ x;
  says_record = λ h r p q o c R on a b k f s. out_with_lem h r _ a ∙ (λ i. item (b i) (mark_of (get_or R 0 0)) o (s i));
  says_more = λ h r c x a k s. out_with_lem h r more a ∙ s;
  says_refused = λ h c o m vs R on a k. out_with_lem h stopped _ a;
  says_long = λ h c o R on g a k. out_with_lem h stopped _ a ∙ rw (le-leb n (length R) g) refl;
  says_cut = λ h c o R on g a k. out_with_lem h stopped _ a ∙ rw (lt-leb n (length R) g) refl;
  says_end = λ h a k. out_with_lem h stopped _ a;
}

-- its readings
telling_count : (n : ℕ) → Telling n ℕ
unfolding readings_of lefts_of
telling_count n = record {
  end = 0;
  one = λ c w R o on. c + further w on;
  add = λ c x. c + x;
  add_none = λ x. omega arith;
  add-one = λ c d w R o on. omega arith;
  Says = λ r x. readings_of r ≡ x + lefts_of r;
  says_record = λ h r p q o c R on a b k f s. let g : ◌≡◌ {A = ℕ} (pick h.left 1 0) 0 = ap (λ (x : Bool). pick x 1 0) f in omega arith;
  says_more = λ h r c x a k s. omega arith;
  says_refused = λ h c o m vs R on a k. omega arith;
  says_long = λ h c o R on g a k. omega arith;
  says_cut = λ h c o R on g a k. omega arith;
  says_end = λ h a k. omega arith;
}

-- opened at the offset o over any buffer that is not refused, whatever it holds, and handed a stream in any pieces
module _ (ps : List (List ℕ)) (l : List ℕ) (o f : ℕ) (low : least_buffer ≤ length l) (high : length l ≤ most_buffer) (sum : o + length (joined ps) ≤ most_offset) (fuel : enough ps ≤ f) where
  -- over any token reader
  module _ (t : Reader) (T : TokenReader t) where
    pub cutting_by : out_of (drive_by t f false (open_of o (length l)).state l ps) ≡ whole_by (λ s. (read_by t s 0 no_blocks).answer) (length l) o (joined ps)
    unfolding telling_out
    cutting_by = opened_says t T ps l o f low high sum fuel (telling_out (length l))

    pub readings_sum_by : readings_of (drive_by t f false (open_of o (length l)).state l ps) ≡ whole_tokens t (length l) (joined ps) + lefts_of (drive_by t f false (open_of o (length l)).state l ps)
    unfolding telling_count
    readings_sum_by =
        opened_says t T ps l o f low high sum fuel (telling_count (length l))
        ∙ ap (λ (x : ℕ). x + lefts_of (drive_by t f false (open_of o (length l)).state l ps)) (any_offset 0 (rest_tokens t (length l)) (joined ps) 0 o 0)

  -- records, offsets and last answer are those of the whole stream
  pub cutting : out_of (drive f false (open_of o (length l)).state l ps) ≡ whole (length l) o (joined ps)
  cutting = cutting_by binary binary_reader ∙ λ i. whole_by (λ s. read_is_scan s i) (length l) o (joined ps)

  -- one reading for each token passed, and one for each next that hands out no record and leaves a buffered byte unpassed; no others
  pub readings_sum : readings_of (drive f false (open_of o (length l)).state l ps) ≡ whole_tokens binary (length l) (joined ps) + lefts_of (drive f false (open_of o (length l)).state l ps)
  readings_sum = readings_sum_by binary binary_reader

-- two callers of the same stream
module _ (n o : ℕ) (R : List ℕ) (low : least_buffer ≤ n) (high : n ≤ most_buffer) (sum : o + length R ≤ most_offset) where
  module _ (c : Caller n o R) where
    total : length (joined c.pieces) ≡ length R
    total = ap length c.joins

    caller_out : out_of (trace_of c) ≡ whole n o R
    caller_out =
        let t = total in
        let v = c.long in
        cutting c.pieces c.buffer o c.fuel (omega arith) (omega arith) (omega arith) c.lasts ∙ λ i. whole (c.long i) o (c.joins i)

    caller_readings : readings_of (trace_of c) ≡ whole_tokens binary n R + lefts_of (trace_of c)
    caller_readings =
        let t = total in
        let v = c.long in
        readings_sum c.pieces c.buffer o c.fuel (omega arith) (omega arith) (omega arith) c.lasts ∙ λ i. whole_tokens binary (c.long i) (c.joins i) + lefts_of (trace_of c)

  -- they are told the same
  pub any_cutting : (c d : Caller n o R) → out_of (trace_of c) ≡ out_of (trace_of d)
  any_cutting c d = caller_out c ∙ sym (caller_out d)

  -- and the tokens passed, that is the readings less those that left a byte, are as many
  pub any_tokens : (c d : Caller n o R) → readings_of (trace_of c) - lefts_of (trace_of c) ≡ readings_of (trace_of d) - lefts_of (trace_of d)
  any_tokens c d = omega (arith, caller_readings c, caller_readings d)
