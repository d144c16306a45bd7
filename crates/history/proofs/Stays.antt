-- What stays over a history of calls: the state fits its buffer, and a record's bytes until a piece is taken. Assumes nothing but that
-- the array of kinds has its 128 bytes.
use mathlib.Core.Path.{◌≡◌, refl, ap, ◌∙◌}
use mathlib.Core.Bool.{true}
use mathlib.Core.List.{List, [], ◌∷◌}
use Prim.Native.Nat.{ℕ, ◌+◌, ◌≤◌}
use native.Mathlib.Omega.{arith}
use lib.ListN.{length}
use Rattle.refusal.specs.Paper.{gives}
use Rattle.blocks.specs.Readings.{Reader, Grows}
use Rattle.reader.specs.declared.State.{State}
use Rattle.places.specs.Places.{most_offset}
use Rattle.reader.specs.Fits.{fits}
use Rattle.reader.specs.Meaning.{done, Told}
use Rattle.reader.specs.Calls.{open_of}
use Rattle.buffer.specs.Buffer.{record_of}
use Rattle.history.specs.Facts.{Slotted}
use Rattle.history.specs.History.{Call, offer, next, close, accepted_by, call_of, run}
use Rattle.history.proofs.Offers.{Offering, accepted, turned_away, offering, offered_length}
use Rattle.history.proofs.Kept.{Kept, kept, kept_fits, next_kept, offer_kept, close_kept, open_kept}

module _ (t : Reader) where
  -- ---- a record's bytes

  call_stays : (s : State) (l : List ℕ) (c : Call) → (call_of t s l c).pieces ≡ 0 → (call_of t s l c).buffer ≡ l
  unfolding call_of
  call_stays s l (offer piece) = by (offering s piece l)
    where
      by : {x : Told ℕ} {m : List ℕ} → Offering s piece l x m → accepted_by x.answer ≡ 0 → m ≡ l
      by (accepted a b c) e = absurd (omega arith)
      by (turned_away n) e = refl
  call_stays s l next = λ e. refl
  call_stays s l close = λ e. refl

  -- calls of next and close, and refused pieces, write no byte
  pub buffer_stays : (s : State) (l : List ℕ) (cs : List Call) → (run t s l cs).pieces ≡ 0 → (run t s l cs).buffer ≡ l
  unfolding run
  buffer_stays s l [] e = refl
  buffer_stays s l (c ∷ cs) e =
      let z : (call_of t s l c).pieces + (run t (call_of t s l c).state (call_of t s l c).buffer cs).pieces ≡ 0 = e in
      buffer_stays (call_of t s l c).state (call_of t s l c).buffer cs (omega arith) ∙ call_stays s l c (omega arith)

  -- a record stays good until a piece is taken
  pub record_stays_good : (s : State) (l : List ℕ) (cs : List Call) → (run t s l cs).pieces ≡ 0 → (place count : ℕ) → record_of (run t s l cs).buffer place count ≡ record_of l place count
  record_stays_good s l cs e place count = ap (λ (x : List ℕ). record_of x place count) (buffer_stays s l cs e)

  -- ---- the buffer's length, and the state

  call_length : (s : State) (l : List ℕ) (c : Call) → length (call_of t s l c).buffer ≡ length l
  unfolding call_of
  call_length s l (offer piece) = offered_length s piece l
  call_length s l next = refl
  call_length s l close = refl

  pub buffer_length_lem : (s : State) (l : List ℕ) (cs : List Call) → length (run t s l cs).buffer ≡ length l
  unfolding run
  buffer_length_lem s l [] = refl
  buffer_length_lem s l (c ∷ cs) = buffer_length_lem (call_of t s l c).state (call_of t s l c).buffer cs ∙ call_length s l c

module _ (t : Reader) (G : Grows t) where
  call_kept : (s : State) (l : List ℕ) (c : Call) → Kept s (length l) → Kept (call_of t s l c).state (length (call_of t s l c).buffer)
  unfolding call_of
  call_kept s l (offer piece) K = offer_kept s piece l K
  call_kept s l next K = next_kept t G s l K
  call_kept s l close K = close_kept s (length l) K

  pub run_kept : (s : State) (l : List ℕ) (cs : List Call) → Kept s (length l) → Kept (run t s l cs).state (length (run t s l cs).buffer)
  unfolding run
  run_kept s l [] K = K
  run_kept s l (c ∷ cs) K = run_kept (call_of t s l c).state (call_of t s l c).buffer cs (call_kept s l c K)

  -- a state that fits still fits after any history
  pub history_fits : (s : State) (l : List ℕ) (cs : List Call) → fits s (length l) ≡ true → Slotted s.blocks → (fits (run t s l cs).state (length (run t s l cs).buffer) ≡ true) × Slotted (run t s l cs).state.blocks
  history_fits s l cs e w = let K = run_kept s l cs (kept s (length l) e w) in (kept_fits K, K.sound.slots)

  -- from an accepted opening over the buffer no history comes to a state that does not fit, so none of its calls is refused 28
  pub fits_from_opening : (o : ℕ) (l : List ℕ) (cs : List Call) → o ≤ most_offset → (open_of o (length l)).answer ≡ gives done →
      (fits (run t (open_of o (length l)).state l cs).state (length (run t (open_of o (length l)).state l cs).buffer) ≡ true) × Slotted (run t (open_of o (length l)).state l cs).state.blocks
  fits_from_opening o l cs h e = let K = run_kept (open_of o (length l)).state l cs (open_kept o (length l) h e) in (kept_fits K, K.sound.slots)
