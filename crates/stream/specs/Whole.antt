-- The whole stream's meaning, in the words of document 01: "for the rest R after separators: empty is End; else scan the first N bytes of
-- R, or all if fewer. A length is a record, a refusal is 20, Incomplete with N bytes is 22 and with fewer 21."
use Rattle.std.specs.Prelude.{ℕ, zero, suc, ◌+◌, ◌-◌, List, [], ◌∷◌, leb, length, get_or, take}
use Rattle.refusal.specs.Numbers.{malformed_record, cut_short, record_too_long}
use Rattle.refusal.specs.Paper.{Paper, gives, more, refused, pick}
use Rattle.refusal.specs.declared.Format.TheVariants.{Binary}
use Rattle.scan.specs.Walk.{scan_of}
use Rattle.reader.specs.declared.Mark.{Mark}
use Rattle.reader.specs.Meaning.{Handed, ended}
use Rattle.reader.specs.Calls.{mark_of}
use Rattle.buffer.specs.Buffer.{is_separator}

-- records, each with its bytes, mark and stream offset, and then the last answer; or no last answer came
pub data Out : Type 0 where
  item : List ℕ → Mark → ℕ → Out → Out
  last : Paper Handed → Out
  stuck : Out

-- a stream from the offset o on, of which the first k bytes belong to a record that is counted already: separators are skipped, an empty
-- rest is `end`, and any other rest is what `one` makes of it, of its offset and of how it goes on behind a record of q bytes
unfoldable pub streamed : {X : Type 0} → X → (List ℕ → ℕ → (ℕ → X) → X) → List ℕ → ℕ → ℕ → X
streamed end one [] k o = end
streamed end one (x ∷ xs) (suc k) o = streamed end one xs k (o + 1)
streamed end one (x ∷ xs) zero o =
    pick (is_separator x) (streamed end one xs 0 (o + 1)) (one (x ∷ xs) o (λ q. streamed end one xs (q - 1) (o + 1)))

-- the rest R at the offset o, by what a scan of its first n bytes says: a length is a record, a refusal is 20, Incomplete with n bytes is
-- 22 and with fewer 21
unfoldable pub framed : Paper ℕ → ℕ → ℕ → List ℕ → (ℕ → Out) → Out
framed (gives q) n o R on = item (take q R) (mark_of (get_or R 0 0)) o (on q)
framed (refused m vs) n o R on = last (refused malformed_record (o ∷ m ∷ vs))
framed more n o R on = last (pick (leb n (length R)) (refused record_too_long (o ∷ n ∷ [])) (refused cut_short (o ∷ length R ∷ [])))

-- the whole stream R from the offset o on with a buffer of n bytes, by any scan
abbrev pub whole_by : (List ℕ → Paper ℕ) → ℕ → ℕ → List ℕ → Out
whole_by scan n o R = streamed (last (gives ended)) (λ R o on. framed (scan (take n R)) n o R on) R 0 o

-- the same by the scan of binary
abbrev pub whole : ℕ → ℕ → List ℕ → Out
whole n o R = whole_by (scan_of Binary) n o R
