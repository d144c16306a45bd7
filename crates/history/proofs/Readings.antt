-- What readings leave: blocks that can be open there, and a place from which the same answer comes again. Assumes nothing.
use mathlib.Core.Path.{◌≡◌, refl, sym, ap, ◌∙◌}
use mathlib.Core.Logic.{⊎_elim}
use mathlib.Core.List.{List, [], ◌∷◌, ◌++◌}
use Prim.Native.Nat.{ℕ, zero, suc, ◌+◌, ◌≤◌, ◌<◌}
use native.Mathlib.Omega.{arith}
use lib.Dec.{ltb}
use lib.ListN.{length, length-append}
use borrow.Author.Tests.{lt-ltb, le-ltb}
use Rattle.refusal.specs.Numbers.{too_deep}
use Rattle.refusal.specs.Paper.{Paper, gives, more, refused, Spot, spot, pick}
use Rattle.refusal.proofs.Cases.{either}
use Rattle.token.specs.declared.Kind.{Kind}
use Rattle.automaton.specs.Step.{Step, go, finished, wrong, deep, step}
use Rattle.kept.specs.declared.Blocks.{Blocks}
use Rattle.kept.specs.Kept.{due_of, blocks_of, blocks_then, no_blocks}
use Rattle.blocks.specs.Readings.{Reached, reached, Reader, Grows, Onward, on_step, on_token, read_for, read_on, read_by}
use Rattle.blocks.proofs.Laws.{read_end, read_turn}
use Rattle.stream.specs.Interface.{Settles}
use Rattle.history.proofs.Blocks.{Sound, sound_none, then_sound}

-- the blocks can be open at the place, and none is behind a whole record
pub record Left (r : Reached) : Type 0 where
  pub sound : Sound r.blocks r.place
  pub whole : (q : ℕ) → r.answer ≡ gives q → r.blocks ≡ no_blocks

-- readings stop at the place p: no byte is left, or the token there is not passed, however the readings would go on
pub data Stops (t : Reader) (s : List ℕ) : ℕ → Blocks → Paper ℕ → Type 0 where
  at_end : {p : ℕ} {b : Blocks} → length s ≤ p → Stops t s p b more
  at_token : {p : ℕ} {b : Blocks} {a : Paper ℕ} → p < length s → ((k : Onward) (n : ℕ) → on_token k p b n (t s p) ≡ reached p n b a) → Stops t s p b a

module _ (t : Reader) (G : Grows t) (s : List ℕ) where
  unpassed : (p n : ℕ) (b : Blocks) (a : Paper ℕ) → ((q : ℕ) → a ≡ gives q → ⊥) → Sound b p → Left (reached p n b a)
  unpassed p n b a f S = record { sound = S; whole = λ q e. absurd (f q e) }

  none : (q : ℕ) → ◌≡◌ {A = Paper ℕ} more (gives q) → ⊥
  none q e = let z : ◌≡◌ {A = ℕ} 0 1 = cc in omega arith

  no : (m : ℕ) (vs : List ℕ) (q : ℕ) → ◌≡◌ {A = Paper ℕ} (refused m vs) (gives q) → ⊥
  no m vs q e = let z : ◌≡◌ {A = ℕ} 0 1 = cc in omega arith

  token_leaves : (k : Onward) (p : ℕ) (b : Blocks) (n : ℕ) → Sound b p → ((x : ℕ) (c : Blocks) (n : ℕ) → Sound c x → Left (k x c n)) → Left (on_token k p b n (t s p))
  unfolding on_token on_step
  token_leaves k p b n S h = by_read (t s p) refl
    where
      by_step : (x : Kind) (first next : ℕ) → p < next → (y : Step) → step (due_of b.due) (blocks_of b) x ≡ y → Left (on_step k first next p b n y)
      by_step x first next g (go L e) f = h next (blocks_then b L e) n (then_sound b p next g S x L e f)
      by_step x first next g finished f = record { sound = sound_none next; whole = λ q e. refl }
      by_step x first next g (wrong m) f = unpassed p n b (refused m (next ∷ [])) (no m (next ∷ [])) S
      by_step x first next g deep f = unpassed p n b (refused _ (first ∷ [])) (no _ (first ∷ [])) S

      by_read : (r : Paper (Spot Kind)) → t s p ≡ r → Left (on_token k p b n r)
      by_read (gives (spot x first next)) e = by_step x first next (G s p x first next e).0 (step (due_of b.due) (blocks_of b) x) refl
      by_read more e = unpassed p n b more none S
      by_read (refused m vs) e = unpassed p n b (refused m vs) (no m vs) S

  run_leaves : (f p : ℕ) (b : Blocks) (n : ℕ) → Sound b p → Left (read_for t s f p b n)
  unfolding read_for
  run_leaves zero p b n S = unpassed p n b more none S
  run_leaves (suc f) p b n S =
      ⊎_elim
      (λ l. rw (le-ltb p (length s) l) (unpassed p n b more none S))
      (λ l. rw (lt-ltb p (length s) l) (token_leaves (read_for t s f) p b (n + 1) S (λ x c m T. run_leaves f x c m T)))
      (either (length s) p)

  pub leaves : (p : ℕ) (b : Blocks) → Sound b p → Left (read_by t s p b)
  unfolding read_on
  leaves p b S = run_leaves (suc (length s)) p b 0 S

  -- ---- the same answer again

  abbrev StopsAt : Reached → Type 0
  StopsAt r = ((q : ℕ) → r.answer ≡ gives q → ⊥) → Stops t s r.place r.blocks r.answer

  token_stops : (k : Onward) (p : ℕ) (b : Blocks) (n : ℕ) → p < length s → ((x : ℕ) (c : Blocks) (n : ℕ) → p < x → StopsAt (k x c n)) → StopsAt (on_token k p b n (t s p))
  unfolding on_token on_step
  token_stops k p b n l h = by_read (t s p) refl
    where
      by_step : (x : Kind) (first next : ℕ) → t s p ≡ gives (spot x first next) → (y : Step) → step (due_of b.due) (blocks_of b) x ≡ y → StopsAt (on_step k first next p b n y)
      by_step x first next e (go L d) f w = h next (blocks_then b L d) n (G s p x first next e).0 w
      by_step x first next e finished f w = absurd (w next refl)
      by_step x first next e (wrong m) f w = at_token {p = p} {b = b} {a = refused m (next ∷ [])} l (λ i j. rw (e, f) refl)
      by_step x first next e deep f w = at_token {p = p} {b = b} {a = refused too_deep (first ∷ [])} l (λ i j. rw (e, f) refl)

      by_read : (r : Paper (Spot Kind)) → t s p ≡ r → StopsAt (on_token k p b n r)
      by_read (gives (spot x first next)) e w = by_step x first next e (step (due_of b.due) (blocks_of b) x) refl w
      by_read more e w = at_token {p = p} {b = b} {a = more} l (λ i j. rw e refl)
      by_read (refused m vs) e w = at_token {p = p} {b = b} {a = refused m vs} l (λ i j. rw e refl)

  run_stops : (f p : ℕ) (b : Blocks) (n : ℕ) → length s < f + p → StopsAt (read_for t s f p b n)
  unfolding read_for
  run_stops zero p b n h = λ w. at_end {p = p} {b = b} (omega arith)
  run_stops (suc f) p b n h =
      ⊎_elim
      (λ l. rw (le-ltb p (length s) l) (λ w. at_end {p = p} {b = b} l))
      (λ l. rw (lt-ltb p (length s) l) (token_stops (read_for t s f) p b (n + 1) l (λ x c m g. run_stops f x c m (omega arith))))
      (either (length s) p)

  -- readings that come to no record stop at the place that they leave
  pub stops : (p : ℕ) (b : Blocks) → ((q : ℕ) → (read_by t s p b).answer ≡ gives q → ⊥) → Stops t s (read_by t s p b).place (read_by t s p b).blocks (read_by t s p b).answer
  unfolding read_on
  stops p b w = run_stops (suc (length s)) p b 0 (omega arith) w

  -- and come to the same answer from there: one reading if a byte is left, none at the end of the bytes
  pub stops_again : {p : ℕ} {b : Blocks} {a : Paper ℕ} → Stops t s p b a → read_by t s p b ≡ reached p (pick (ltb p (length s)) 1 0) b a
  stops_again {p} {b} (at_end l) = rw (le-ltb p (length s) l) (read_end t G s p b 0 l)
  stops_again {p} {b} (at_token l h) = rw (lt-ltb p (length s) l) (read_turn t G s p b 0 l ∙ h (read_on t s) 1)

-- a refused token is refused whatever bytes stand behind
pub stops_longer : (t : Reader) → Settles t → (s u : List ℕ) {p m : ℕ} {b : Blocks} {vs : List ℕ} → Stops t s p b (refused m vs) → Stops t (s ++ u) p b (refused m vs)
unfolding on_token
stops_longer t Z s u {p} {m} {b} {vs} (at_token l h) =
    let no : t s p ≡ more → ⊥ = λ e. let f : more ≡ refused m vs = ap (λ (x : Reached). x.answer) (sym (ap (on_token (λ x c n. reached x n c more) p b 0) e) ∙ h (λ x c n. reached x n c more) 0) in let z : ◌≡◌ {A = ℕ} 0 1 = cc in omega arith in
    at_token {p = p} {b = b} {a = refused m vs} (omega (arith, length-append s u)) (λ k n. ap (on_token k p b n) (Z s u p (omega arith) no) ∙ h k n)
