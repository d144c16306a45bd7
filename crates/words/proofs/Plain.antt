-- Letters by the code's tests, and where a run of the bytes of unquoted strings ends. Assumes nothing.
use mathlib.Core.Path.{◌≡◌, sym}
use mathlib.Core.Bool.{Bool, true, false, cond, not}
use mathlib.Core.List.{List, [], ◌∷◌}
use Prim.Native.Nat.{ℕ, suc, ◌+◌, ◌<◌}
use native.Mathlib.Nat.{add-zero}
use native.Mathlib.Omega.{arith}
use borrow.Author.Tests.{lt-leb}
use lib.ListN.{drop}
use Rattle.refusal.specs.Paper.{pick}
use Rattle.search.specs.First.{first, first_from, is_joint, is_edge}
use Rattle.token.specs.Digits.{is_digit}
use Rattle.words.specs.Plain.{is_letter, is_plain, plain_run, plain_end}

module _ (b : ℕ) where
  pub letter_low : b < 65 → false ≡ is_letter b
  unfolding is_letter
  letter_low h = rw (lt-leb 65 b h, lt-leb 97 b (omega arith))

-- a run ends at the first byte that is none of its bytes
first_run : (p : ℕ) (l : List ℕ) → first is_edge p l ≡ p + plain_run l
unfolding first is_edge is_joint is_plain is_letter is_digit plain_run
first_run p [] = sym (add-zero p)
first_run p (b ∷ l) = go (first_run (p + 1) l) (is_plain b)
  where
    go : first is_edge (p + 1) l ≡ p + 1 + plain_run l → (t : Bool) → cond (not t) p (first is_edge (p + 1) l) ≡ p + pick t (suc (plain_run l)) 0
    go i true = omega arith
    go i false = sym (add-zero p)

pub run_first : (s : List ℕ) (p : ℕ) → first_from is_edge s p ≡ plain_end s p
unfolding first_from plain_end
run_first s p = first_run p (drop p s)
