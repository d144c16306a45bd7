-- Laws of `encode`. Assumes nothing.
use mathlib.Core.Path.{◌≡◌, refl, sym, ap, ◌∙◌}
use mathlib.Core.Logic.{⊎_elim}
use mathlib.Core.List.{List, [], ◌∷◌}
use Prim.Native.Nat.{ℕ, zero, suc, ◌+◌, ◌/◌, ◌%◌, ◌≤◌, ◌<◌}
use native.Mathlib.Nat.{zero-add}
use native.Mathlib.Omega.{arith}
use lib.ListN.{length}
use lib.Seq.{sets, sets-eq}
use borrow.Author.Tests.{lt-ltb, le-ltb}
use Rattle.refusal.specs.Numbers.{short_output}
use Rattle.refusal.specs.Paper.{gives, refused}
use Rattle.refusal.proofs.Cases.{either}
use Rattle.varint.specs.Write.{encode_in, encode, write_answer, write_bytes}

in_last : (k n : ℕ) → n < 128 → encode_in k n ≡ n ∷ []
unfolding encode_in
in_last zero n h = refl
in_last (suc k) n h = rw (lt-ltb n 128 h)

in_more : (k n : ℕ) → 128 ≤ n → encode_in (suc k) n ≡ (n % 128 + 128) ∷ encode_in k (n / 128)
unfolding encode_in
in_more k n h = rw (le-ltb n 128 h)

-- more room changes nothing
in_enough : (k m n : ℕ) → n ≤ k → n ≤ m → encode_in k n ≡ encode_in m n
in_enough zero m n p q = in_last zero n (omega arith) ∙ sym (in_last m n (omega arith))
in_enough (suc k) zero n p q = in_last (suc k) n (omega arith) ∙ sym (in_last zero n (omega arith))
in_enough (suc k) (suc m) n p q =
    ⊎_elim
    (λ h. in_more k n h ∙ ap (λ (l : List ℕ). (n % 128 + 128) ∷ l) (in_enough k m (n / 128) (omega arith) (omega arith)) ∙ sym (in_more m n h))
    (λ h. in_last (suc k) n h ∙ sym (in_last (suc m) n h))
    (either 128 n)

pub last : (n : ℕ) → n < 128 → encode n ≡ n ∷ []
unfolding encode
last n h = in_last n n h

pub step : (n : ℕ) → 128 ≤ n → encode n ≡ (n % 128 + 128) ∷ encode (n / 128)
unfolding encode
step zero h = absurd (omega arith)
step (suc n) h = in_more n (suc n) h ∙ ap (λ (l : List ℕ). (suc n % 128 + 128) ∷ l) (in_enough n (suc n / 128) (suc n / 128) (omega arith) (omega arith))

-- ---- the answer and the bytes, by cases

module _ (out : List ℕ) (v : ℕ) where
  pub short : length out < length (encode v) → (write_answer (length out) v ≡ refused short_output []) × (write_bytes out v ≡ out)
  unfolding write_answer write_bytes
  short k = (rw (lt-ltb _ _ k), rw (lt-ltb _ _ k))

  pub fits : length (encode v) ≤ length out
      → (write_answer (length out) v ≡ gives (length (encode v))) × (write_bytes out v ≡ sets out 0 (encode v))
  unfolding write_answer write_bytes
  fits k = (rw (le-ltb _ _ k), rw (le-ltb _ _ k, ← zero-add (length (encode v))) (sym (sets-eq (encode v) out 0 (omega arith))))

-- ---- how long it is

pub some : (n : ℕ) → 1 ≤ length (encode n)
some n = ⊎_elim (λ h. omega (arith, ap length (step n h))) (λ h. omega (arith, ap length (last n h))) (either 128 n)

pub long : (n : ℕ) → 2 ≤ length (encode n) → 128 ≤ n
long n k = ⊎_elim (λ h. h) (λ h. absurd (omega (arith, ap length (last n h)))) (either 128 n)

pub short_one : (n : ℕ) → length (encode n) ≡ 1 → n < 128
short_one n k = ⊎_elim (λ h. absurd (omega (arith, ap length (step n h), some (n / 128)))) (λ h. h) (either 128 n)
