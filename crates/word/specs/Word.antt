-- Bytes as a number, lowest first. A place behind the end of the bytes counts as a byte 0.
use Rattle.std.specs.Prelude.{ℕ, zero, suc, ◌+◌, ◌*◌, Bool, cond, List, get_or}

-- the n bytes from p on
unfoldable pub word_at : ℕ → List ℕ → ℕ → ℕ
word_at zero s p = 0
word_at (suc n) s p = word_at n s (p + 1) * 256 + get_or s p 0

-- 128 for each of the n bytes from p on for which f holds, 0 for each other
unfoldable pub marks_at : (ℕ → Bool) → ℕ → List ℕ → ℕ → ℕ
marks_at f zero s p = 0
marks_at f (suc n) s p = marks_at f n s (p + 1) * 256 + cond (f (get_or s p 0)) 128 0
