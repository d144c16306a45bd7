-- Bytes that come later change no answer but `more`: what a reader of a stream leans on. Assumes nothing.
use mathlib.Core.Path.{◌≡◌, sym, ap, ◌∙◌}
use mathlib.Core.Logic.{⊎_elim}
use mathlib.Core.List.{List, [], ◌∷◌, ◌++◌}
use Prim.Native.Nat.{ℕ, suc, ◌+◌, ◌%◌, ◌≤◌, ◌<◌, zero-le}
use native.Mathlib.Omega.{arith}
use lib.ListN.{length, take, drop, get_or, length-append, get_or-append}
use lib.Seq.{take-append-le, drop-append-le}
use Rattle.refusal.specs.Paper.{more}
use Rattle.refusal.proofs.Cases.{either}
use Rattle.varint.specs.Varint.{run, number, uvarint, uvarint_at}
use Rattle.varint.proofs.Read.{giving, run_yes, run_no, no_four, no_four_yet, is_over, is_long, is_more, is_more_ten, at_is}
use Rattle.varint.proofs.Round.{gives_is}

module _ (u : List ℕ) where
  run_grows : (t : List ℕ) → run t ≤ run (t ++ u)
  unfolding run
  run_grows [] = zero-le
  run_grows (b ∷ bs) =
      ⊎_elim (λ h. omega (arith, run_yes b bs h, run_yes b (bs ++ u) h, run_grows bs)) (λ h. omega (arith, run_no b bs h)) (either 128 b)

  run_stays : (t : List ℕ) → run t < length t → run (t ++ u) ≡ run t
  unfolding run
  run_stays [] k = absurd (omega arith)
  run_stays (b ∷ bs) k =
      ⊎_elim (λ h. omega (arith, run_yes b bs h, run_yes b (bs ++ u) h, run_stays bs (omega (arith, run_yes b bs h))))
      (λ h. run_no b (bs ++ u) h ∙ sym (run_no b bs h)) (either 128 b)

  module _ (at : ℕ) (t : List ℕ) where
    -- both lists have the number, where the one is known to
    same_number : run t < length t → run t < 10 → (9 ≤ run t → get_or t 9 0 % 128 ≤ 1) → uvarint at (t ++ u) ≡ uvarint at t
    same_number k h d =
        let e = run_stays t k in
        let l = length-append t u in
        ⊎_elim
        (λ g.
        let x = get_or-append t u 0 9 (omega arith) in
        let y = d g in
        gives_is at (t ++ u) (no_four (t ++ u) (omega (arith, ap (λ (n : ℕ). n % 128) x))) (omega arith) (omega arith) ∙ numbers e k
        ∙ sym (gives_is at t (no_four t y) h k))
        (λ g. gives_is at (t ++ u) (no_four_yet (t ++ u) (omega arith)) (omega arith) (omega arith) ∙ numbers e k ∙ sym (gives_is at t (no_four_yet t g) h k))
        (either 9 (run t))
      where
        numbers : run (t ++ u) ≡ run t → run t < length t
            → giving (number (take (suc (run (t ++ u))) (t ++ u))) (at + suc (run (t ++ u))) ≡ giving (number (take (suc (run t)) t)) (at + suc (run t))
        numbers e k = rw (e, take-append-le (suc (run t)) t u k)

    pub settled : (uvarint at t ≡ more → ⊥) → uvarint at (t ++ u) ≡ uvarint at t
    settled f =
        let l = length-append t u in
        let r = run_grows t in
        ⊎_elim
        (λ n.
        ⊎_elim
        (λ g.
        let x = ap (λ (m : ℕ). m % 128) (get_or-append t u 0 9 n) in
        ⊎_elim (λ d. is_over at (t ++ u) (omega arith) (omega arith) (omega arith) ∙ sym (is_over at t g n d))
        (λ d.
        ⊎_elim
        (λ z.
        ⊎_elim (λ m. is_long at (t ++ u) (omega arith) (omega arith) (omega arith) ∙ sym (is_long at t z m (omega arith)))
        (λ m. absurd (f (is_more_ten at t (omega arith) (omega arith) (omega arith))))
        (either 11 (length t)))
        (λ z. same_number (omega arith) z (λ _. omega arith))
        (either 10 (run t)))
        (either 2 (get_or t 9 0 % 128)))
        (λ g. same_number (omega arith) (omega arith) (λ z. absurd (omega arith)))
        (either 9 (run t)))
        (λ n.
        ⊎_elim (λ k. same_number k (omega arith) (λ z. absurd (omega arith)))
        (λ k. absurd (f (is_more at t (omega arith) (omega arith)))) (either (suc (run t)) (length t)))
        (either 10 (length t))

-- the same at a place of a slice
pub settled_at : (s u : List ℕ) (at : ℕ) → at ≤ length s → (uvarint_at s at ≡ more → ⊥) → uvarint_at (s ++ u) at ≡ uvarint_at s at
settled_at s u at h f =
    at_is (s ++ u) at (omega (arith, length-append s u)) ∙ ap (uvarint at) (drop-append-le at s u h)
    ∙ settled u at (drop at s) (λ e. f (at_is s at h ∙ e)) ∙ sym (at_is s at h)
