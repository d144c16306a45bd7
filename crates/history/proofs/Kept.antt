-- A state that fits its buffer still fits after each call, and an accepted opening fits. Assumes nothing but that the array of kinds
-- has its 128 bytes, which the calls keep too.
use mathlib.Core.Path.{◌≡◌, refl, sym, ◌∙◌}
use mathlib.Core.Bool.{true, ◌&&◌}
use mathlib.Core.List.{List, []}
use Prim.Native.Nat.{ℕ, ◌+◌, ◌-◌, ◌≤◌}
use native.Mathlib.Omega.{arith}
use lib.Dec.{eqb, leb}
use lib.ListN.{length}
use lib.Seq.{slice, length-slice}
use borrow.Author.Tests.{eqb-true, leb-true}
use Rattle.refusal.specs.Numbers.{strange_state}
use Rattle.refusal.specs.Paper.{Paper, gives, more, refused}
use Rattle.kept.specs.declared.Blocks.{Blocks}
use Rattle.kept.specs.Kept.{kinds_known, depth_within, depth_within_passed, due_fits, blocks_fit}
use Rattle.blocks.specs.Readings.{Reached, Reader, Grows}
use Rattle.kept.proofs.Stack.{by_due}
use Rattle.reader.specs.declared.State.{State}
use Rattle.places.specs.Places.{most_offset, is_buffer}
use Rattle.places.proofs.Tests.{both, range}
use Rattle.reader.specs.Fits.{held_of, fits, Fitting}
use Rattle.reader.specs.Meaning.{Done, done, Told, told, Looked}
use Rattle.reader.specs.Calls.{open_of, buffered_of, offer_of, buffer_of, shut_state, close_of, state_at, skipped_of, read_of, wait_of, hand_out, look_of, next_by}
use Rattle.buffer.specs.Buffer.{separators}
use Rattle.blocks.proofs.Firsts.{pick_case}
use Rattle.buffer.proofs.Buffer.{seps_le}
use Rattle.reader.proofs.Shell.{fitting, within, next_looks}
use Rattle.reader.proofs.Refusing.{by_blocks}
use Rattle.history.specs.Facts.{Slotted}
use Rattle.history.proofs.Blocks.{Sound, sound_none}
use Rattle.history.proofs.Readings.{Left, leaves}
use Rattle.history.proofs.Offers.{Offering, accepted, turned_away, offering, room, filled_length}

-- ---- 28's tests as facts, and back

-- a state that fits a buffer of n bytes
pub record Kept (s : State) (n : ℕ) : Type 0 where
  pub fit : Fitting s n
  pub sound : Sound s.blocks (s.place - s.start)

pub kept_fits : {s : State} {n : ℕ} → Kept s n → fits s n ≡ true
kept_fits {s} {n} K =
    let F = K.fit in
    let S = K.sound in
    by_blocks s n F.len F.low F.high F.order F.passed F.within F.sum ∙ by_due s.blocks (s.place - s.start) S.top S.few S.known ∙ S.due

sound : (b : Blocks) (passed : ℕ) → blocks_fit b passed ≡ true → Slotted b → Sound b passed
unfolding blocks_fit
sound b passed e slots =
    let x = both (depth_within b && depth_within_passed b passed && kinds_known b.depth b.kinds) (due_fits b) e in
    let y = both (depth_within b && depth_within_passed b passed) (kinds_known b.depth b.kinds) x.0 in
    let z = both (depth_within b) (depth_within_passed b passed) y.0 in
    record { top = leb-true _ _ z.0; few = leb-true _ _ z.1; known = y.1; due = x.1; slots = slots }

pub kept : (s : State) (n : ℕ) → fits s n ≡ true → Slotted s.blocks → Kept s n
kept s n e slots =
    let F = fitting s n e in
    record { fit = F; sound = sound s.blocks (s.place - s.start) (sym (by_blocks s n F.len F.low F.high F.order F.passed F.within F.sum) ∙ e) slots }

-- ---- next

sound_less : {b : Blocks} {k : ℕ} (j : ℕ) → b.depth ≤ j → Sound b k → Sound b j
sound_less j h S = record { top = S.top; few = h; known = S.known; due = S.due; slots = S.slots }

pub skip_kept : (s : State) (l : List ℕ) → Kept s (length l) → Kept (skipped_of s l) (length l)
unfolding skipped_of
skip_kept s l K =
    let F = K.fit in
    let S = K.sound in
    let k = separators (slice s.start s.filled l) in
    let le : k ≤ s.filled - s.start = rw (length-slice s.start s.filled l F.within) at (seps_le (slice s.start s.filled l)) in
    pick_case (λ t. Kept t (length l)) (eqb s.place s.start) (state_at s (s.offset + k) (s.start + k) (s.start + k) s.blocks) s
    (λ e. let z : s.place ≡ s.start = eqb-true _ _ e in
    record {
      fit = record { len = F.len; low = F.low; high = F.high; order = omega arith; passed = omega arith; within = F.within; sum = omega arith; depth = F.depth };
      sound = sound_less ((s.start + k) - (s.start + k)) (omega (arith, S.few)) S;
    })
    (λ _. K)

-- waiting leaves the state
pub wait_state : (s : State) (n : ℕ) → (wait_of s n).state ≡ s
wait_state s n =
    pick_case (λ (x : Looked). x.state ≡ s) (leb s.len (held_of s)) _ _ (λ _. refl)
    λ _. pick_case (λ (x : Looked). x.state ≡ s) s.closed _ _
    (λ _. pick_case (λ (x : Looked). x.state ≡ s) (eqb (held_of s) 0) _ _ (λ _. refl) (λ _. refl))
    (λ _. refl)

module _ (t : Reader) (G : Grows t) (s : State) (l : List ℕ) where
  look_kept : Kept s (length l) → Kept (look_of t s l).state (length l)
  look_kept K = by r.answer refl
    where
      r : Reached
      r = read_of t s l

      F : Fitting s (length l)
      F = K.fit

      L : Left r
      L = leaves t G (buffered_of s l) (s.place - s.start) s.blocks K.sound

      unhanded : Kept (state_at s s.offset s.start (s.start + r.place) r.blocks) (length l)
      unhanded =
          let w = within t G s l F in
          record {
            fit = record { len = F.len; low = F.low; high = F.high; order = omega arith; passed = omega (arith, w.to); within = F.within; sum = F.sum; depth = L.sound.top };
            sound = sound_less ((s.start + r.place) - s.start) (omega (arith, L.sound.few)) L.sound;
          }

      by : (a : Paper ℕ) → r.answer ≡ a → Kept (hand_out a s r l).state (length l)
      by (gives q) e =
          let w = (within t G s l F).whole q e in
          record {
            fit = record { len = F.len; low = F.low; high = F.high; order = omega arith; passed = omega (arith, w); within = F.within; sum = omega (arith, w, F.sum); depth = L.sound.top };
            sound = rw (L.whole q e) (sound_none ((s.start + q) - (s.start + q)));
          }
      by more e = rw (wait_state (state_at s s.offset s.start (s.start + r.place) r.blocks) r.readings) unhanded
      by (refused n vs) e = unhanded

module _ (t : Reader) (G : Grows t) where
  pub next_kept : (s : State) (l : List ℕ) → Kept s (length l) → Kept (next_by t s l).state (length l)
  next_kept s l K = rw (next_looks t s l (kept_fits K)) (look_kept t G (skipped_of s l) l (skip_kept s l K))

  -- a state that fits still fits after next
  pub next_fits : (s : State) (l : List ℕ) → fits s (length l) ≡ true → Slotted s.blocks → (fits (next_by t s l).state (length l) ≡ true) × Slotted (next_by t s l).state.blocks
  next_fits s l e w = let K = next_kept s l (kept s (length l) e w) in (kept_fits K, K.sound.slots)

-- ---- the other calls

-- a state that fits still fits after a piece is offered, with the buffer after it
pub offer_kept : (s : State) (piece l : List ℕ) → Kept s (length l) → Kept (offer_of s (length l) (length piece)).state (length (buffer_of s piece l))
offer_kept s piece l K = by (offering s piece l)
  where
    by : {x : Told ℕ} {m : List ℕ} → Offering s piece l x m → Kept x.state (length m)
    by (accepted a b c) =
        let F = K.fit in
        let S = K.sound in
        let r = room s piece l F in
        rw (filled_length s piece l F) (record {
          fit = record { len = F.len; low = F.low; high = F.high; order = omega arith; passed = omega (arith, F.order, F.passed); within = omega (arith, F.order, F.passed, F.within); sum = omega (arith, F.sum); depth = F.depth };
          sound = sound_less ((s.place - s.start) - 0) (omega (arith, S.few)) S;
        })
    by (turned_away n) = K

pub offer_fits : (s : State) (piece l : List ℕ) → fits s (length l) ≡ true → Slotted s.blocks → (fits (offer_of s (length l) (length piece)).state (length (buffer_of s piece l)) ≡ true) × Slotted (offer_of s (length l) (length piece)).state.blocks
offer_fits s piece l e w = let K = offer_kept s piece l (kept s (length l) e w) in (kept_fits K, K.sound.slots)

-- and after closing
pub close_kept : (s : State) (n : ℕ) → Kept s n → Kept (close_of s n).state n
unfolding close_of
close_kept s n K =
    pick_case (λ (x : Told Done). Kept x.state n) (fits s n) (told (gives done) (shut_state s)) (told (refused strange_state []) s)
    (λ _. let F = K.fit in
    record { fit = record { len = F.len; low = F.low; high = F.high; order = F.order; passed = F.passed; within = F.within; sum = F.sum; depth = F.depth }; sound = K.sound })
    (λ _. K)

pub close_fits : (s : State) (n : ℕ) → fits s n ≡ true → Slotted s.blocks → (fits (close_of s n).state n ≡ true) × Slotted (close_of s n).state.blocks
close_fits s n e w = let K = close_kept s n (kept s n e w) in (kept_fits K, K.sound.slots)

abbrev Opens : ℕ → Told Done → Type 0
Opens n x = x.answer ≡ gives done → Kept x.state n

-- an accepted opening fits; a stream offset is one up to 2^64 - 1
pub open_kept : (o n : ℕ) → o ≤ most_offset → (open_of o n).answer ≡ gives done → Kept (open_of o n).state n
unfolding open_of
open_kept o n h =
    pick_case (Opens n) (is_buffer n) _ _
    (λ a e. let r = range n a in record {
      fit = record { len = refl; low = r.0; high = r.1; order = omega arith; passed = omega arith; within = omega arith; sum = omega arith; depth = (sound_none 0).top };
      sound = sound_none (0 - 0);
    })
    (λ _ e. let z : ◌≡◌ {A = ℕ} 0 1 = cc in absurd (omega arith))

pub open_fits : (o n : ℕ) → o ≤ most_offset → (open_of o n).answer ≡ gives done → (fits (open_of o n).state n ≡ true) × Slotted (open_of o n).state.blocks
open_fits o n h e = let K = open_kept o n h e in (kept_fits K, K.sound.slots)
