-- States from which next neither skips a byte nor passes a token, and that next leaves such a state where it hands out no record.
-- Assumes nothing.
use mathlib.Core.Path.{◌≡◌, refl, sym, ap, subst, ◌∙◌}
use mathlib.Core.Bool.{Bool, true, false}
use mathlib.Core.Logic.{⊎_elim}
use mathlib.Core.List.{List, [], ◌∷◌}
use Prim.Native.Nat.{ℕ, suc, ◌+◌, ◌-◌, ◌≤◌, ◌<◌}
use native.Mathlib.Omega.{arith}
use lib.Dec.{eqb, ltb, leb}
use lib.ListN.{length, take, drop}
use lib.Seq.{length-slice, drop-drop}
use borrow.Author.Tests.{eqb-true, eqb-false, lt-ltb, le-ltb, leb-true, leb-false}
use Rattle.refusal.specs.Numbers.{malformed_record, cut_short, record_too_long}
use Rattle.refusal.specs.Paper.{Paper, gives, more, refused, pick}
use Rattle.refusal.proofs.Cases.{either}
use Rattle.blocks.specs.Readings.{Reached, reached, Reader, Grows}
use Rattle.blocks.proofs.Ranged.{ranged}
use Rattle.reader.specs.declared.State.{State}
use Rattle.reader.specs.Fits.{held_of, Fitting}
use Rattle.reader.specs.Meaning.{Handed, ended, Looked, looked}
use Rattle.reader.specs.Calls.{buffered_of, state_at, skipped_of, read_of, wait_of, hand_out, look_of, next_by}
use Rattle.buffer.specs.Buffer.{is_separator, separators}
use Rattle.blocks.proofs.Firsts.{pick_case}
use Rattle.reader.proofs.Shell.{next_looks}
use Rattle.history.specs.Facts.{unpassed, HandsOut, progress_of}
use Rattle.history.proofs.Readings.{Stops, stops, stops_again}
use Rattle.history.proofs.Kept.{Kept, kept_fits, skip_kept, wait_state, next_kept}

-- ---- separators are skipped once

seps_behind : (l : List ℕ) → separators (drop (separators l) l) ≡ 0
unfolding separators
seps_behind [] = refl
seps_behind (x ∷ xs) = by (seps_behind xs) (is_separator x) refl
  where
    by : separators (drop (separators xs) xs) ≡ 0 → (b : Bool) → is_separator x ≡ b → separators (drop (pick b (suc (separators xs)) 0) (x ∷ xs)) ≡ 0
    by h true e = h
    by h false e = rw e refl

-- a state behind whose first byte no separators stand, or with a token passed, stays where it is
pub skip_rest : (s : State) (l : List ℕ) → (s.place ≡ s.start → separators (buffered_of s l) ≡ 0) → skipped_of s l ≡ s
unfolding skipped_of
skip_rest s l h =
    pick_case (λ (x : State). x ≡ s) (eqb s.place s.start) _ s
    (λ e. let z : s.place ≡ s.start = eqb-true _ _ e in
    let k : separators (buffered_of s l) ≡ 0 = h z in
    let o : s.offset + separators (buffered_of s l) ≡ s.offset = omega arith in
    let a : s.start + separators (buffered_of s l) ≡ s.start = omega arith in
    let p : s.start + separators (buffered_of s l) ≡ s.place = omega arith in
    ap (λ (i : ℕ). state_at s i (s.start + separators (buffered_of s l)) (s.start + separators (buffered_of s l)) s.blocks) o
    ∙ ap (λ (i : ℕ). state_at s s.offset i (s.start + separators (buffered_of s l)) s.blocks) a
    ∙ ap (λ (i : ℕ). state_at s s.offset s.start i s.blocks) p)
    (λ _. refl)

pub skipped_none : (s : State) (l : List ℕ) → (skipped_of s l).place ≡ (skipped_of s l).start → separators (buffered_of (skipped_of s l) l) ≡ 0
unfolding skipped_of
skipped_none s l =
    pick_case (λ (x : State). x.place ≡ x.start → separators (buffered_of x l) ≡ 0) (eqb s.place s.start) _ s
    (λ e _. ap separators (sym (drop-drop (separators (buffered_of s l)) s.start (take s.filled l))) ∙ seps_behind (buffered_of s l))
    (λ e z. absurd (eqb-false _ _ e z))

-- ---- next without a record

-- what next answers where it waits: 22, the end, 21, or more
pub data Waiting (s : State) : Paper Handed → Type 0 where
  too_long : s.len ≤ held_of s → Waiting s (refused record_too_long (s.offset ∷ s.len ∷ []))
  at_end : held_of s < s.len → s.closed ≡ true → held_of s ≡ 0 → Waiting s (gives ended)
  cut_off : held_of s < s.len → s.closed ≡ true → (held_of s ≡ 0 → ⊥) → Waiting s (refused cut_short (s.offset ∷ held_of s ∷ []))
  still_open : held_of s < s.len → s.closed ≡ false → Waiting s more

abbrev WaitsAs : State → Looked → Type 0
WaitsAs s x = Waiting s x.answer

pub waiting : (s : State) (n : ℕ) → Waiting s (wait_of s n).answer
waiting s n =
    pick_case (WaitsAs s) (leb s.len (held_of s)) _ _ (λ a. too_long (leb-true _ _ a))
    λ a. pick_case (WaitsAs s) s.closed _ _
    (λ b. pick_case (WaitsAs s) (eqb (held_of s) 0) _ _ (λ c. at_end (leb-false _ _ a) b (eqb-true _ _ c)) (λ c. cut_off (leb-false _ _ a) b (eqb-false _ _ c)))
    (λ b. still_open (leb-false _ _ a) b)

-- what waiting answers, whatever the count
pub wait_count : (s : State) (n c : ℕ) → wait_of s c ≡ looked (wait_of s n).answer c s
wait_count s n c = by (leb s.len (held_of s)) s.closed (eqb (held_of s) 0)
  where
    by : (x y z : Bool) → pick x (looked (refused record_too_long (s.offset ∷ s.len ∷ [])) c s) (pick y (pick z (looked (gives ended) c s) (looked (refused cut_short (s.offset ∷ held_of s ∷ [])) c s)) (looked more c s)) ≡ looked (pick x (looked (refused record_too_long (s.offset ∷ s.len ∷ [])) n s) (pick y (pick z (looked (gives ended) n s) (looked (refused cut_short (s.offset ∷ held_of s ∷ [])) n s)) (looked more n s))).answer c s
    by true y z = refl
    by false true true = refl
    by false true false = refl
    by false false z = refl

-- a state that fits, from which next neither skips a byte nor passes a token; the readings answer a
pub record Stuck (t : Reader) (s : State) (l : List ℕ) (a : Paper ℕ) : Type 0 where
  pub kept : Kept s (length l)
  pub still : s.place ≡ s.start → separators (buffered_of s l) ≡ 0
  pub stops : Stops t (buffered_of s l) (s.place - s.start) s.blocks a

-- what next answers there
abbrev pub answer_for : Paper ℕ → State → Paper Handed
answer_for (gives q) s = more
answer_for more s = (wait_of s 0).answer
answer_for (refused m vs) s = refused malformed_record (s.offset ∷ m ∷ vs)

module _ (t : Reader) (G : Grows t) (s : State) (l : List ℕ) (a : Paper ℕ) (h : (q : ℕ) → a ≡ gives q → ⊥) (K : Stuck t s l a) where
  F : Fitting s (length l)
  F = K.kept.fit

  count_left : pick (ltb (s.place - s.start) (length (buffered_of s l))) 1 0 ≡ unpassed s
  count_left =
      let n = length-slice s.start s.filled l F.within in
      ⊎_elim
      (λ i. rw (le-ltb (s.place - s.start) (length (buffered_of s l)) i, le-ltb s.place s.filled (omega (arith, n, i, F.order))) refl)
      (λ i. rw (lt-ltb (s.place - s.start) (length (buffered_of s l)) i, lt-ltb s.place s.filled (omega (arith, n, i, F.order))) refl)
      (either (length (buffered_of s l)) (s.place - s.start))

  reads : read_of t s l ≡ reached (s.place - s.start) (unpassed s) s.blocks a
  reads = stops_again t G (buffered_of s l) K.stops ∙ ap (λ (c : ℕ). reached (s.place - s.start) c s.blocks a) count_left

  -- the same place, so the same state
  same_state : state_at s s.offset s.start (s.start + (s.place - s.start)) s.blocks ≡ s
  same_state = let e : s.start + (s.place - s.start) ≡ s.place = omega (arith, F.order) in ap (λ (p : ℕ). state_at s s.offset s.start p s.blocks) e

  pub stuck_next : next_by t s l ≡ looked (answer_for a s) (unpassed s) s
  stuck_next =
      next_looks t s l (kept_fits K.kept) ∙ ap (λ (x : State). look_of t x l) (skip_rest s l K.still)
      ∙ ap (λ (x : Reached). hand_out x.answer s x l) reads ∙ by a h
    where
      by : (a : Paper ℕ) → ((q : ℕ) → a ≡ gives q → ⊥) → hand_out a s (reached (s.place - s.start) (unpassed s) s.blocks a) l ≡ looked (answer_for a s) (unpassed s) s
      by (gives q) h = absurd (h q refl)
      by more h = ap (λ (x : State). wait_of x (unpassed s)) same_state ∙ wait_count s 0 (unpassed s)
      by (refused n vs) h = ap (λ (x : State). looked (refused malformed_record (s.offset ∷ n ∷ vs)) (unpassed s) x) same_state

module _ (t : Reader) (G : Grows t) (s : State) (l : List ℕ) where
  abbrev s₁ : State
  s₁ = skipped_of s l

  abbrev r : Reached
  r = read_of t s₁ l

  -- a record is handed out exactly where the readings come to one
  pub unfound : (HandsOut (look_of t s₁ l).answer → ⊥) → (q : ℕ) → r.answer ≡ gives q → ⊥
  unfound h q e = h (rw e tt)

  pub left_state : ((q : ℕ) → r.answer ≡ gives q → ⊥) → (look_of t s₁ l).state ≡ progress_of t s l
  left_state h = by r.answer refl
    where
      by : (a : Paper ℕ) → r.answer ≡ a → (hand_out a s₁ r l).state ≡ progress_of t s l
      by (gives q) e = absurd (h q e)
      by more e = wait_state (progress_of t s l) r.readings
      by (refused n vs) e = refl

  -- that state is stuck
  pub progress_stuck : Kept s (length l) → ((q : ℕ) → r.answer ≡ gives q → ⊥) → Stuck t (progress_of t s l) l r.answer
  progress_stuck K h =
      let F = (skip_kept s l K).fit in
      let g = ranged t G (buffered_of s₁ l) (s₁.place - s₁.start) s₁.blocks (omega (arith, F.order, F.passed, length-slice s₁.start s₁.filled l F.within)) in
      let e : r.place ≡ (s₁.start + r.place) - s₁.start = omega arith in
      record {
        kept = subst (λ (x : State). Kept x (length l)) (ap (λ (x : Looked). x.state) (next_looks t s l (kept_fits K)) ∙ left_state h) (next_kept t G s l K);
        still = λ z. skipped_none s l (omega (arith, g.from, F.order, z));
        stops = subst (λ (p : ℕ). Stops t (buffered_of s₁ l) p r.blocks r.answer) e (stops t G (buffered_of s₁ l) (s₁.place - s₁.start) s₁.blocks h);
      }

  -- next answers what it answered
  pub same_answer : ((q : ℕ) → r.answer ≡ gives q → ⊥) → answer_for r.answer (progress_of t s l) ≡ (look_of t s₁ l).answer
  same_answer h = by r.answer refl
    where
      by : (a : Paper ℕ) → r.answer ≡ a → answer_for a (progress_of t s l) ≡ (hand_out a s₁ r l).answer
      by (gives q) e = absurd (h q e)
      by more e = ap (λ (x : Looked). x.answer) (wait_count (progress_of t s l) r.readings 0)
      by (refused n vs) e = refl
