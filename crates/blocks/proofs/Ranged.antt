-- What is read lies within the bytes. Assumes nothing.
use mathlib.Core.Path.{◌≡◌, refl}
use mathlib.Core.Logic.{⊎_elim}
use mathlib.Core.List.{List, [], ◌∷◌}
use Prim.Native.Nat.{ℕ, zero, suc, ◌+◌, ◌≤◌, ◌<◌}
use native.Mathlib.Omega.{arith}
use lib.ListN.{length}
use borrow.Author.Tests.{lt-ltb, le-ltb}
use Rattle.refusal.specs.Paper.{Paper, gives, more, refused, Spot, spot}
use Rattle.refusal.proofs.Cases.{either}
use Rattle.token.specs.declared.Kind.{Kind}
use Rattle.automaton.specs.Step.{Step, go, finished, wrong, deep, step}
use Rattle.kept.specs.declared.Blocks.{Blocks}
use Rattle.kept.specs.Kept.{due_of, blocks_of, blocks_then}
use Rattle.blocks.specs.Readings.{Reached, reached, Reader, Grows, Onward, on_step, on_token, read_for, read_on, read_by}

-- the place is at p or behind it and within the bytes, and a whole record ends behind p and within the bytes
pub record Ranged (s : List ℕ) (p : ℕ) (r : Reached) : Type 0 where
  pub from : p ≤ r.place
  pub to : r.place ≤ length s
  pub whole : (q : ℕ) → r.answer ≡ gives q → (p < q) × (q ≤ length s)

module _ (t : Reader) (G : Grows t) (s : List ℕ) where
  unpassed : (p n : ℕ) (b : Blocks) (a : Paper ℕ) → ((q : ℕ) → a ≡ gives q → ⊥) → p ≤ length s → Ranged s p (reached p n b a)
  unpassed p n b a f h = record { from = omega arith; to = h; whole = λ q e. absurd (f q e) }

  none : (q : ℕ) → ◌≡◌ {A = Paper ℕ} more (gives q) → ⊥
  none q e = let z : ◌≡◌ {A = ℕ} 0 1 = cc in omega arith

  no : (m : ℕ) (vs : List ℕ) (q : ℕ) → ◌≡◌ {A = Paper ℕ} (refused m vs) (gives q) → ⊥
  no m vs q e = let z : ◌≡◌ {A = ℕ} 0 1 = cc in omega arith

  farther : {p x : ℕ} {r : Reached} → p < x → Ranged s x r → Ranged s p r
  farther h r = record { from = omega (arith, r.from); to = r.to; whole = λ q e. (omega (arith, r.whole q e), (r.whole q e).1) }

  on_token_lem : (k : Onward) (p : ℕ) (b : Blocks) (n : ℕ) → p < length s → ((x : ℕ) (b : Blocks) (n : ℕ) → p < x → x ≤ length s → Ranged s x (k x b n)) → Ranged s p (on_token k p b n (t s p))
  unfolding on_token on_step
  on_token_lem k p b n l h = by_read (t s p) refl
    where
      by_step : (first next : ℕ) → p < next → next ≤ length s → (x : Step) → Ranged s p (on_step k first next p b n x)
      by_step first next g i (go L e) = farther g (h next (blocks_then b L e) n g i)
      by_step first next g i finished = record { from = omega arith; to = i; whole = λ q e. let z : next ≡ q = cc in (omega arith, omega arith) }
      by_step first next g i (wrong m) = unpassed p n b (refused m (next ∷ [])) (no m (next ∷ [])) (omega arith)
      by_step first next g i deep = unpassed p n b (refused _ (first ∷ [])) (no _ (first ∷ [])) (omega arith)

      by_read : (r : Paper (Spot Kind)) → t s p ≡ r → Ranged s p (on_token k p b n r)
      by_read (gives (spot x first next)) e = let g = G s p x first next e in by_step first next g.0 g.1 (step (due_of b.due) (blocks_of b) x)
      by_read more e = unpassed p n b more none (omega arith)
      by_read (refused m vs) e = unpassed p n b (refused m vs) (no m vs) (omega arith)

  run_ranged : (f p : ℕ) (b : Blocks) (n : ℕ) → p ≤ length s → Ranged s p (read_for t s f p b n)
  unfolding read_for
  run_ranged zero p b n h = unpassed p n b more none h
  run_ranged (suc f) p b n h =
      ⊎_elim
      (λ l. rw (le-ltb p (length s) l) (unpassed p n b more none h))
      (λ l. rw (lt-ltb p (length s) l) (on_token_lem (read_for t s f) p b (n + 1) l (λ x c m g i. run_ranged f x c m i)))
      (either (length s) p)

  pub ranged : (p : ℕ) (b : Blocks) → p ≤ length s → Ranged s p (read_by t s p b)
  unfolding read_on
  ranged p b h = run_ranged (suc (length s)) p b 0 h
