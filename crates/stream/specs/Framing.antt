-- The framing of the Rust, case by case, as what the whole stream's meaning comes to.
use Rattle.std.specs.Prelude.{◌≡◌, ℕ, ◌+◌, ◌≤◌, ◌<◌, List, [], ◌∷◌, length, get_or, take, drop}
use Rattle.refusal.specs.Numbers.{malformed_record, cut_short, record_too_long}
use Rattle.refusal.specs.Paper.{gives, more, refused}
use Rattle.refusal.specs.declared.Format.TheVariants.{Binary}
use Rattle.scan.specs.Walk.{scan_of}
use Rattle.reader.specs.Meaning.{ended}
use Rattle.reader.specs.Calls.{mark_of}
use Rattle.buffer.specs.Buffer.{separators}
use Rattle.stream.specs.Whole.{item, last, whole}

-- a rest that starts with no separator and is not empty
pub record Starts (R : List ℕ) : Type 0 where
  pub some : 0 < length R
  pub none : separators R ≡ 0

pub record Framing (n : ℕ) : Type 0 where
  -- separators are skipped
  pub separated : (o : ℕ) (R : List ℕ) → whole n o R ≡ whole n (o + separators R) (drop (separators R) R)
  -- empty is End
  pub empty : (o : ℕ) → whole n o [] ≡ last (gives ended)
  -- a length is a record, and the stream goes on behind it
  pub found : (o q : ℕ) (R : List ℕ) → Starts R → scan_of Binary (take n R) ≡ gives q → whole n o R ≡ item (take q R) (mark_of (get_or R 0 0)) o (whole n (o + q) (drop q R))
  -- a refusal is 20
  pub malformed : (o m : ℕ) (vs R : List ℕ) → Starts R → scan_of Binary (take n R) ≡ refused m vs → whole n o R ≡ last (refused malformed_record (o ∷ m ∷ vs))
  -- Incomplete with n bytes is 22
  pub long : (o : ℕ) (R : List ℕ) → Starts R → scan_of Binary (take n R) ≡ more → n ≤ length R → whole n o R ≡ last (refused record_too_long (o ∷ n ∷ []))
  -- and with fewer 21
  pub short : (o : ℕ) (R : List ℕ) → Starts R → scan_of Binary (take n R) ≡ more → length R < n → whole n o R ≡ last (refused cut_short (o ∷ length R ∷ []))
