-- What `put` and `after` are where a word fits and where it does not, and how many the last k digits are. Assumes nothing.
use Rattle.std.proofs.Common.{◌≡◌, ◌+◌, ◌<◌, ◌≤◌, ◌∙◌, ℕ, zero, suc, List, length, arith, refl, length-append, ◌/◌}
use Rattle.std.proofs.Math.Seq.{paste}
use borrow.Author.Tests.{le-leb, lt-leb}
use Rattle.output.specs.Digits.{last_digits}
use Rattle.output.specs.Put.{put, after}

pub fitted : (d : List ℕ) (n : ℕ) (w : List ℕ) → n + length w ≤ length d → (n + length w ≡ after d n w) × (paste d n w (length w) ≡ put d n w)
unfolding put after
fitted d n w h = (simp (le-leb _ _ h), simp (le-leb _ _ h))

pub unfit : (d : List ℕ) (n : ℕ) (w : List ℕ) → length d < n + length w → (n ≡ after d n w) × (d ≡ put d n w)
unfolding put after
unfit d n w h = (simp (lt-leb _ _ h), simp (lt-leb _ _ h))

pub digits_length : (k x : ℕ) → length (last_digits 10 k x) ≡ k
digits_length zero x = refl
digits_length (suc k) x = length-append (last_digits 10 k (x / 10)) _ ∙ omega (arith, digits_length k (x / 10))
