-- What a repeated call answers, and what a refused one leaves. Assumes nothing but that the array of kinds has its 128 bytes.
use mathlib.Core.Path.{◌≡◌, refl, sym, ap, subst, ◌∙◌}
use mathlib.Core.Bool.{Bool, true, false}
use mathlib.Core.Logic.{◌⊎◌, inl, inr}
use mathlib.Core.List.{List, []}
use Prim.Native.Nat.{ℕ, zero, suc, ◌+◌, ◌-◌, ◌≤◌}
use native.Mathlib.Omega.{arith}
use lib.Dec.{eqb}
use lib.ListN.{length}
use lib.Seq.{length-slice}
use borrow.Author.Tests.{eqb-true, le-ltb}
use Rattle.refusal.specs.Numbers.{malformed_record, cut_short, record_too_long, strange_state}
use Rattle.refusal.specs.Paper.{Paper, gives, more, refused}
use Rattle.kept.specs.Kept.{no_blocks}
use Rattle.blocks.specs.Readings.{Reached, Reader, Grows}
use Rattle.blocks.proofs.Ranged.{ranged}
use Rattle.reader.specs.declared.State.{State}
use Rattle.reader.specs.declared.Mark.{Mark}
use Rattle.places.specs.Places.{is_buffer}
use Rattle.reader.specs.Fits.{held_of, fits}
use Rattle.reader.specs.Meaning.{Done, Handed, handed, ended, Told, told, Looked, looked}
use Rattle.reader.specs.Calls.{new_state, open_of, buffered_of, offer_of, buffer_of, close_of, state_at, skipped_of, read_of, hand_out, look_of, next_by}
use Rattle.buffer.specs.Buffer.{separators}
use Rattle.blocks.proofs.Firsts.{pick_case}
use Rattle.reader.proofs.Shell.{fitting, skipped_fits, within, next_strange, next_looks}
use Rattle.reader.proofs.Refusing.{no_len, no_low}
use Rattle.history.specs.Facts.{Slotted, unpassed, HandsOut, progress_of, Progress, HandedOut, Strange}
use Rattle.history.proofs.Readings.{leaves}
use Rattle.history.proofs.Offers.{Offering, accepted, turned_away, offering}
use Rattle.history.proofs.Kept.{Kept, kept, skip_kept, next_kept}
use Rattle.history.proofs.Stuck.{Waiting, too_long, at_end, cut_off, still_open, waiting, stuck_next, unfound, left_state, progress_stuck, same_answer}

-- separators skipped are progress
skip_progress : (s : State) (l : List ℕ) → Progress s (skipped_of s l)
unfolding skipped_of
skip_progress s l =
    let k = separators (buffered_of s l) in
    pick_case (Progress s) (eqb s.place s.start) (state_at s (s.offset + k) (s.start + k) (s.start + k) s.blocks) s
    (λ e. let z : s.place ≡ s.start = eqb-true _ _ e in record { from = omega arith; offset = omega arith; place = omega arith; filled = refl; len = refl; closed = refl })
    (λ _. record { from = omega arith; offset = omega arith; place = omega arith; filled = refl; len = refl; closed = refl })

module _ (t : Reader) (G : Grows t) (s : State) (l : List ℕ) where
  abbrev s₁ : State
  s₁ = skipped_of s l

  abbrev r : Reached
  r = read_of t s₁ l

  module _ (f : fits s (length l) ≡ true) (w : Slotted s.blocks) (h : HandsOut (next_by t s l).answer → ⊥) where
    pub looks : next_by t s l ≡ look_of t s₁ l
    looks = next_looks t s l f

    pub none_found : (q : ℕ) → r.answer ≡ gives q → ⊥
    none_found = unfound t G s l (rw looks at h)

    pub left : (next_by t s l).state ≡ progress_of t s l
    left = ap (λ (x : Looked). x.state) looks ∙ left_state t G s l none_found

    -- an answer that hands out no record comes again, and leaves the state
    pub next_again : next_by t (next_by t s l).state l ≡ looked (next_by t s l).answer (unpassed (next_by t s l).state) (next_by t s l).state
    next_again =
        ap (λ (x : State). next_by t x l) left ∙ stuck_next t G (progress_of t s l) l r.answer none_found (progress_stuck t G s l (kept s (length l) f w) none_found)
        ∙ ap (λ (a : Paper Handed). looked a (unpassed (progress_of t s l)) (progress_of t s l)) (same_answer t G s l none_found ∙ ap (λ (x : Looked). x.answer) (sym looks))
        ∙ ap (λ (x : State). looked (next_by t s l).answer (unpassed x) x) (sym left)

  -- ---- by the answer

  -- a state that fits is refused 20, 21 or 22 alone
  look_refuses : (n : ℕ) (vs : List ℕ) → (look_of t s₁ l).answer ≡ refused n vs → (malformed_record ≤ n) × (n ≤ record_too_long)
  look_refuses n vs = by r.answer
    where
      waits : {x : State} {a : Paper Handed} → Waiting x a → a ≡ refused n vs → (malformed_record ≤ n) × (n ≤ record_too_long)
      waits (too_long h) e = let z : record_too_long ≡ n = cc in (omega arith, omega arith)
      waits (at_end h c z) e = let y : ◌≡◌ {A = ℕ} 0 1 = cc in absurd (omega arith)
      waits (cut_off h c z) e = let y : cut_short ≡ n = cc in (omega arith, omega arith)
      waits (still_open h c) e = let z : ◌≡◌ {A = ℕ} 0 1 = cc in absurd (omega arith)

      by : (a : Paper ℕ) → (hand_out a s₁ r l).answer ≡ refused n vs → (malformed_record ≤ n) × (n ≤ record_too_long)
      by (gives q) e = let z : ◌≡◌ {A = ℕ} 0 1 = cc in absurd (omega arith)
      by (refused m us) e = let z : malformed_record ≡ n = cc in (omega arith, omega arith)
      by more e = waits (waiting (progress_of t s l) r.readings) e

  -- next refuses 20, 21, 22 and 28 alone
  pub next_refuses : (n : ℕ) (vs : List ℕ) → (next_by t s l).answer ≡ refused n vs → ((malformed_record ≤ n) × (n ≤ record_too_long)) ⊎ (n ≡ strange_state)
  next_refuses n vs e = by (fits s (length l)) refl
    where
      by : (b : Bool) → fits s (length l) ≡ b → ((malformed_record ≤ n) × (n ≤ record_too_long)) ⊎ (n ≡ strange_state)
      by true f = inl (look_refuses n vs (sym (ap (λ (x : Looked). x.answer) (next_looks t s l f)) ∙ e))
      by false f = let z : refused strange_state [] ≡ refused n vs = sym (ap (λ (x : Looked). x.answer) (next_strange t s l f)) ∙ e in inr (cc)

  -- 28 hands the state back unchanged, with no readings
  pub strange_next : (vs : List ℕ) → (next_by t s l).answer ≡ refused strange_state vs → next_by t s l ≡ looked (refused strange_state []) 0 s
  strange_next vs e = by (fits s (length l)) refl
    where
      by : (b : Bool) → fits s (length l) ≡ b → next_by t s l ≡ looked (refused strange_state []) 0 s
      by true f = absurd (omega (arith, look_refuses strange_state vs (sym (ap (λ (x : Looked). x.answer) (next_looks t s l f)) ∙ e)))
      by false f = next_strange t s l f

  -- any other answer comes of a state that fits
  pub fit_for : (a : Paper Handed) → (next_by t s l).answer ≡ a → (a ≡ refused strange_state [] → ⊥) → fits s (length l) ≡ true
  fit_for a e h = by (fits s (length l)) refl
    where
      by : (b : Bool) → fits s (length l) ≡ b → fits s (length l) ≡ true
      by true f = f
      by false f = absurd (h (sym e ∙ ap (λ (x : Looked). x.answer) (next_strange t s l f)))

  -- the end is answered where nothing is buffered
  ended_held : (look_of t s₁ l).answer ≡ gives ended → held_of s₁ ≡ 0
  ended_held = by r.answer
    where
      waits : {x : State} {a : Paper Handed} → Waiting x a → a ≡ gives ended → held_of x ≡ 0
      waits (too_long h) e = let z : ◌≡◌ {A = ℕ} 0 1 = cc in absurd (omega arith)
      waits (at_end h c z) e = z
      waits (cut_off h c z) e = let y : ◌≡◌ {A = ℕ} 0 1 = cc in absurd (omega arith)
      waits (still_open h c) e = let z : ◌≡◌ {A = ℕ} 0 1 = cc in absurd (omega arith)

      by : (a : Paper ℕ) → (hand_out a s₁ r l).answer ≡ gives ended → held_of s₁ ≡ 0
      by (gives q) e = let z : ◌≡◌ {A = ℕ} 0 1 = cc in absurd (omega arith)
      by (refused n us) e = let z : ◌≡◌ {A = ℕ} 0 1 = cc in absurd (omega arith)
      by more e = waits (waiting (progress_of t s l) r.readings) e

  module _ (w : Slotted s.blocks) where
    -- a refusal of next that is not 28, so 20, 21 or 22, comes again with its values, and the state stays
    pub refusal_again : (n : ℕ) (vs : List ℕ) → (n ≡ strange_state → ⊥) → (next_by t s l).answer ≡ refused n vs → next_by t (next_by t s l).state l ≡ looked (refused n vs) (unpassed (next_by t s l).state) (next_by t s l).state
    refusal_again n vs h e = rw (← e) (next_again (fit_for (refused n vs) e (λ x. h (cc))) w (λ x. rw e at x))

    -- and so does more
    pub more_again : (next_by t s l).answer ≡ more → next_by t (next_by t s l).state l ≡ looked more (unpassed (next_by t s l).state) (next_by t s l).state
    more_again e = rw (← e) (next_again (fit_for more e (λ x. let z : ◌≡◌ {A = ℕ} 0 1 = cc in omega arith)) w (λ x. rw e at x))

    -- and the end, with no readings
    pub end_again : (next_by t s l).answer ≡ gives ended → next_by t (next_by t s l).state l ≡ looked (gives ended) 0 (next_by t s l).state
    end_again e =
        let f : fits s (length l) ≡ true = fit_for (gives ended) e (λ x. let z : ◌≡◌ {A = ℕ} 0 1 = cc in omega arith) in
        let h : HandsOut (next_by t s l).answer → ⊥ = λ x. rw e at x in
        let K = (next_kept t G s l (kept s (length l) f w)).fit in
        let z : held_of (next_by t s l).state ≡ 0 = ap held_of (left f w h) ∙ ended_held (sym (ap (λ (x : Looked). x.answer) (looks f w h)) ∙ e) in
        let c : unpassed (next_by t s l).state ≡ 0 = rw (le-ltb (next_by t s l).state.place (next_by t s l).state.filled (omega (arith, z, K.order))) refl in
        next_again f w h ∙ ap (λ (a : Paper Handed). looked a (unpassed (next_by t s l).state) (next_by t s l).state) e ∙ ap (λ (k : ℕ). looked (gives ended) k (next_by t s l).state) c

    -- the progress stays in the state: the separators are skipped, the place is the end of the last token passed, and the rest is as it was
    pub progress_stays : (n : ℕ) (vs : List ℕ) → (n ≡ strange_state → ⊥) → (next_by t s l).answer ≡ refused n vs → ((next_by t s l).state ≡ progress_of t s l) × Progress s (next_by t s l).state
    progress_stays n vs h e =
        let f : fits s (length l) ≡ true = fit_for (refused n vs) e (λ x. h (cc)) in
        let i : HandsOut (next_by t s l).answer → ⊥ = λ x. rw e at x in
        let F = fitting s (length l) f in
        let X = skipped_fits s l F in
        let g = ranged t G (buffered_of s₁ l) (s₁.place - s₁.start) s₁.blocks (omega (arith, X.order, X.passed, length-slice s₁.start s₁.filled l X.within)) in
        let p = skip_progress s l in
        (left f w i, rw (left f w i) (record { from = p.from; offset = p.offset; place = omega (arith, g.from, p.place, X.order); filled = p.filled; len = p.len; closed = p.closed }))

    -- a record handed out leaves the state behind it, with no block open
    pub record_leaves : (p n o : ℕ) (m : Mark) → (next_by t s l).answer ≡ gives (handed p n o m) → HandedOut p n o (next_by t s l).state
    record_leaves p n o m e =
        let f : fits s (length l) ≡ true = fit_for (gives (handed p n o m)) e (λ x. let z : ◌≡◌ {A = ℕ} 0 1 = cc in omega arith) in
        let K = skip_kept s l (kept s (length l) f w) in
        let c = next_looks t s l f in
        rw c (by K r.answer refl (sym (ap (λ (x : Looked). x.answer) c) ∙ e))
      where
        waits : {x : State} {a : Paper Handed} → Waiting x a → a ≡ gives (handed p n o m) → ⊥
        waits (too_long h) e = let z : ◌≡◌ {A = ℕ} 0 1 = cc in omega arith
        waits (at_end h c z) e = let y : ◌≡◌ {A = ℕ} 0 1 = cc in omega arith
        waits (cut_off h c z) e = let y : ◌≡◌ {A = ℕ} 0 1 = cc in omega arith
        waits (still_open h c) e = let z : ◌≡◌ {A = ℕ} 0 1 = cc in omega arith

        by : Kept s₁ (length l) → (a : Paper ℕ) → r.answer ≡ a → (hand_out a s₁ r l).answer ≡ gives (handed p n o m) → HandedOut p n o (hand_out a s₁ r l).state
        by K (gives q) f e =
            let F = K.fit in
            let v = (within t G s₁ l F).whole q f in
            let b : r.blocks ≡ no_blocks = (leaves t G (buffered_of s₁ l) (s₁.place - s₁.start) s₁.blocks K.sound).whole q f in
            let x : s₁.start ≡ p = cc in
            let y : q ≡ n = cc in
            let z : s₁.offset ≡ o = cc in
            record { some = omega (arith, v); start = omega arith; place = omega arith; offset = omega arith; blocks = b; within = omega (arith, v, F.order, F.passed) }
        by K more f e = absurd (waits (waiting (progress_of t s l) r.readings) e)
        by K (refused k vs) f e = let z : ◌≡◌ {A = ℕ} 0 1 = cc in absurd (omega arith)

-- ---- closing, and what a refused call leaves

-- closing a closed stream again changes nothing, the answer neither
pub close_twice : (s : State) (n : ℕ) → close_of (close_of s n).state n ≡ close_of s n
unfolding close_of fits
close_twice s n = by (fits s n) refl
  where
    by : (b : Bool) → fits s n ≡ b → close_of (close_of s n).state n ≡ close_of s n
    by true e = rw e (rw e refl)
    by false e = rw e (rw e refl)

-- a refused piece leaves the state and the buffer
pub refused_piece : (s : State) (piece l : List ℕ) (n : ℕ) (vs : List ℕ) → (offer_of s (length l) (length piece)).answer ≡ refused n vs → ((offer_of s (length l) (length piece)).state ≡ s) × (buffer_of s piece l ≡ l)
refused_piece s piece l n vs = by (offering s piece l)
  where
    by : {x : Told ℕ} {m : List ℕ} → Offering s piece l x m → x.answer ≡ refused n vs → (x.state ≡ s) × (m ≡ l)
    by (accepted a b c) e = let z : ◌≡◌ {A = ℕ} 0 1 = cc in absurd (omega arith)
    by (turned_away k) e = (refl, refl)

-- so does a refused closing
pub refused_close : (s : State) (n m : ℕ) (vs : List ℕ) → (close_of s n).answer ≡ refused m vs → close_of s n ≡ told (refused strange_state []) s
unfolding close_of
refused_close s n m vs =
    pick_case (λ (x : Told Done). x.answer ≡ refused m vs → x ≡ told (refused strange_state []) s) (fits s n) _ _
    (λ _ e. let z : ◌≡◌ {A = ℕ} 0 1 = cc in absurd (omega arith))
    (λ _ e. refl)

-- a refused opening gives the state of zeros
zeros : (o n m : ℕ) (vs : List ℕ) → (open_of o n).answer ≡ refused m vs → (open_of o n).state ≡ new_state 0 0
unfolding open_of
zeros o n m vs =
    pick_case (λ (x : Told Done). x.answer ≡ refused m vs → x.state ≡ new_state 0 0) (is_buffer n) _ _
    (λ _ e. let z : ◌≡◌ {A = ℕ} 0 1 = cc in absurd (omega arith))
    (λ _ _. refl)

-- it fits no buffer
zeros_fit_nothing : (n : ℕ) → fits (new_state 0 0) n ≡ false
zeros_fit_nothing zero = no_low (new_state 0 0) 0 refl (omega arith)
zeros_fit_nothing (suc n) = no_len (new_state 0 0) (suc n) (λ e. omega arith)

-- each call refuses 28 what fits no buffer, hands it back, and writes nothing
module _ (t : Reader) (l piece : List ℕ) where
  pub strange_refused : (s : State) → fits s (length l) ≡ false → Strange t l piece s
  unfolding offer_of buffer_of next_by close_of
  strange_refused s e = (rw e refl, rw e refl, rw e refl, rw e refl)

  -- so every call refuses the state of a refused opening
  pub zero_state_strange : (o n m : ℕ) (vs : List ℕ) → (open_of o n).answer ≡ refused m vs → Strange t l piece (open_of o n).state
  zero_state_strange o n m vs e = subst (Strange t l piece) (sym (zeros o n m vs e)) (strange_refused (new_state 0 0) (zeros_fit_nothing (length l)))
