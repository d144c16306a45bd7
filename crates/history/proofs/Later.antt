-- 20, 21 and 22 come again on each later next, and so does the end, whatever calls stand between, accepted pieces too. Assumes nothing
-- but that the array of kinds has its 128 bytes.
use mathlib.Core.Path.{◌≡◌, refl, sym, ap, subst, ◌∙◌}
use mathlib.Core.Bool.{Bool, true, false}
use mathlib.Core.List.{List, [], ◌∷◌, ◌++◌, append-nil}
use Prim.Native.Nat.{ℕ, suc, ◌-◌, ◌≤◌, ◌<◌}
use native.Mathlib.Omega.{arith}
use lib.ListN.{length, take}
use borrow.Author.Tests.{le-leb}
use Rattle.refusal.specs.Numbers.{malformed_record, record_too_long, strange_state}
use Rattle.refusal.specs.Paper.{Paper, gives, more, refused, pick}
use Rattle.kept.specs.declared.Blocks.{Blocks}
use Rattle.blocks.specs.Readings.{Reader, Grows}
use Rattle.reader.specs.declared.State.{State}
use Rattle.reader.specs.Fits.{held_of, fits}
use Rattle.reader.specs.Meaning.{Handed, ended, Told, Looked}
use Rattle.reader.specs.Calls.{buffered_of, filled_by, offer_of, buffer_of, shut_state, close_of, skipped_of, read_of, wait_of, hand_out, look_of, next_by}
use Rattle.buffer.specs.Buffer.{is_separator, separators}
use Rattle.stream.specs.Interface.{Settles}
use Rattle.history.specs.Facts.{Slotted, HandsOut, progress_of}
use Rattle.history.specs.History.{Call, offer, next, close, call_of, run}
use Rattle.history.proofs.Readings.{Stops, at_token, stops_longer}
use Rattle.history.proofs.Offers.{count_of, filled_with, Offering, accepted, turned_away, offering, filled_buffered}
use Rattle.history.proofs.Kept.{Kept, kept, kept_fits, offer_kept, close_kept}
use Rattle.history.proofs.Stuck.{Waiting, too_long, at_end as closed-empty, cut_off, still_open, waiting, wait_count, Stuck, answer_for, stuck_next, progress_stuck}
use Rattle.history.proofs.Again.{looks, none_found, left, fit_for}

-- an answer x that no call changes: a is what the readings answer
data Lasts (s : State) : Paper ℕ → Paper Handed → Type 0 where
  bad : {m : ℕ} {vs : List ℕ} → Lasts s (refused m vs) (refused malformed_record (s.offset ∷ m ∷ vs))
  full : s.len ≤ held_of s → Lasts s more (refused record_too_long (s.offset ∷ s.len ∷ []))
  shut : {x : Paper Handed} → s.closed ≡ true → (wait_of s 0).answer ≡ x → Lasts s more x

record Lasting (t : Reader) (s : State) (l : List ℕ) (x : Paper Handed) : Type 0 where
  a : Paper ℕ
  stuck : Stuck t s l a
  lasts : Lasts s a x

no_record : {s : State} {a : Paper ℕ} {x : Paper Handed} → Lasts s a x → (q : ℕ) → a ≡ gives q → ⊥
no_record bad q e = let z : ◌≡◌ {A = ℕ} 0 1 = cc in omega arith
no_record (full h) q e = let z : ◌≡◌ {A = ℕ} 0 1 = cc in omega arith
no_record (shut h f) q e = let z : ◌≡◌ {A = ℕ} 0 1 = cc in omega arith

full_answer : (s : State) → s.len ≤ held_of s → (wait_of s 0).answer ≡ refused record_too_long (s.offset ∷ s.len ∷ [])
full_answer s h = rw (le-leb s.len (held_of s) h) refl

answers : {s : State} {a : Paper ℕ} {x : Paper Handed} → Lasts s a x → answer_for a s ≡ x
answers bad = refl
answers {s} (full h) = full_answer s h
answers (shut h f) = f

-- no separators stand before bytes that do not start with one
seps_longer : (l u : List ℕ) → 0 < length l → separators l ≡ 0 → separators (l ++ u) ≡ 0
unfolding separators
seps_longer [] u h e = absurd (omega arith)
seps_longer (x ∷ xs) u h e = by (is_separator x) e
  where
    by : (b : Bool) → pick b (suc (separators xs)) 0 ≡ 0 → pick b (suc (separators (xs ++ u))) 0 ≡ 0
    by true e = absurd (omega arith)
    by false e = refl

some_byte : {t : Reader} {s : List ℕ} {p m : ℕ} {b : Blocks} {vs : List ℕ} → Stops t s p b (refused m vs) → p < length s
some_byte (at_token l h) = l

module _ (t : Reader) (G : Grows t) (Z : Settles t) where
  -- next answers x, and leaves the state
  lasting_next : (s : State) (l : List ℕ) (x : Paper Handed) → Lasting t s l x → ((next_by t s l).answer ≡ x) × ((next_by t s l).state ≡ s)
  lasting_next s l x L =
      let e = stuck_next t G s l L.a (no_record L.lasts) L.stuck in
      (ap (λ (y : Looked). y.answer) e ∙ answers L.lasts, ap (λ (y : Looked). y.state) e)

  -- ---- a piece that is taken

  module _ (s : State) (piece l : List ℕ) (K : Kept (filled_by s (count_of s piece l)) (length (filled_with s piece l))) where
    buffered : {a : Paper ℕ} → Stuck t s l a → buffered_of (filled_by s (count_of s piece l)) (filled_with s piece l) ≡ buffered_of s l ++ take (count_of s piece l) piece
    buffered S = filled_buffered s piece l S.kept.fit

    -- the same token is refused, whatever stands behind it
    bad_longer : (m : ℕ) (vs : List ℕ) → Stuck t s l (refused m vs) → Stuck t (filled_by s (count_of s piece l)) (filled_with s piece l) (refused m vs)
    bad_longer m vs S =
        let F = S.kept.fit in
        let p : (s.place - s.start) - 0 ≡ s.place - s.start = omega arith in
        let i = some_byte S.stops in
        record {
          kept = K;
          still = λ z. rw (buffered S) (seps_longer (buffered_of s l) (take (count_of s piece l) piece) (omega arith) (S.still (omega (arith, F.order))));
          stops = rw (buffered S, p) (stops_longer t Z (buffered_of s l) (take (count_of s piece l) piece) S.stops);
        }

    -- a full buffer takes nothing
    full_same : (a : Paper ℕ) → s.len ≤ held_of s → Stuck t s l a → Stuck t (filled_by s (count_of s piece l)) (filled_with s piece l) a
    full_same a h S =
        let F = S.kept.fit in
        let c : count_of s piece l ≡ 0 = omega (arith, F.len) in
        let p : (s.place - s.start) - 0 ≡ s.place - s.start = omega arith in
        let e : buffered_of (filled_by s (count_of s piece l)) (filled_with s piece l) ≡ buffered_of s l = buffered S ∙ ap (λ (k : ℕ). buffered_of s l ++ take k piece) c ∙ append-nil (buffered_of s l) in
        record {
          kept = K;
          still = λ z. rw e (S.still (omega (arith, F.order)));
          stops = rw (e, p) S.stops;
        }

    taken_lasts : {a : Paper ℕ} {x : Paper Handed} → s.closed ≡ false → Lasts s a x → Stuck t s l a → Lasting t (filled_by s (count_of s piece l)) (filled_with s piece l) x
    taken_lasts c (bad {m} {vs}) S = record { a = refused m vs; stuck = bad_longer m vs S; lasts = bad }
    taken_lasts c (full h) S = record { a = more; stuck = full_same more h S; lasts = full (omega arith) }
    taken_lasts c (shut h f) S = let z : false ≡ true = sym c ∙ h in let y : ◌≡◌ {A = ℕ} 0 1 = cc in absurd (omega arith)

  -- ---- any call

  offer_lasts : (s : State) (piece l : List ℕ) (x : Paper Handed) → Lasting t s l x → Lasting t (offer_of s (length l) (length piece)).state (buffer_of s piece l) x
  offer_lasts s piece l x L = by (offering s piece l) (offer_kept s piece l L.stuck.kept)
    where
      by : {y : Told ℕ} {m : List ℕ} → Offering s piece l y m → Kept y.state (length m) → Lasting t y.state m x
      by (accepted f c h) K = taken_lasts s piece l K c L.lasts L.stuck
      by (turned_away n) K = L

  -- closing a closed stream leaves it
  shut_same : (s : State) → s.closed ≡ true → shut_state s ≡ s
  shut_same s e = ap (λ (c : Bool). record { len = s.len; offset = s.offset; start = s.start; place = s.place; filled = s.filled; closed = c; blocks = s.blocks }) (sym e)

  shut_lasts : (s : State) {a : Paper ℕ} {x : Paper Handed} → Lasts s a x → Lasts (shut_state s) a x
  shut_lasts s bad = bad
  shut_lasts s (full h) = full h
  shut_lasts s (shut h f) = shut refl (ap (λ (y : State). (wait_of y 0).answer) (shut_same s h) ∙ f)

  close_lasts : (s : State) (l : List ℕ) (x : Paper Handed) → Lasting t s l x → Lasting t (close_of s (length l)).state l x
  unfolding close_of
  close_lasts s l x L =
      let S = L.stuck in
      let K : Kept (shut_state s) (length l) = rw (kept_fits S.kept) at (close_kept s (length l) S.kept) in
      rw (kept_fits S.kept) (record { a = L.a; stuck = record { kept = K; still = S.still; stops = S.stops }; lasts = shut_lasts s L.lasts })

  call_lasts : (s : State) (l : List ℕ) (c : Call) (x : Paper Handed) → Lasting t s l x → Lasting t (call_of t s l c).state (call_of t s l c).buffer x
  unfolding call_of
  call_lasts s l (offer piece) x L = offer_lasts s piece l x L
  call_lasts s l next x L = subst (λ (y : State). Lasting t y l x) (sym (lasting_next s l x L).1) L
  call_lasts s l close x L = close_lasts s l x L

  run_lasts : (s : State) (l : List ℕ) (cs : List Call) (x : Paper Handed) → Lasting t s l x → Lasting t (run t s l cs).state (run t s l cs).buffer x
  unfolding run
  run_lasts s l [] x L = L
  run_lasts s l (c ∷ cs) x L = run_lasts (call_of t s l c).state (call_of t s l c).buffer cs x (call_lasts s l c x L)

  -- ---- from an answer on

  module _ (s : State) (l : List ℕ) (w : Slotted s.blocks) where
    -- 20, 21, 22 and the end last
    look_lasts : (x : Paper Handed) → ((q : ℕ) → (read_of t (skipped_of s l) l).answer ≡ gives q → ⊥) → (x ≡ more → ⊥) → (look_of t (skipped_of s l) l).answer ≡ x → Lasts (progress_of t s l) (read_of t (skipped_of s l) l).answer x
    look_lasts x h g = by (read_of t (skipped_of s l) l).answer refl
      where
        waits : {y : Paper Handed} → Waiting (progress_of t s l) y → (wait_of (progress_of t s l) 0).answer ≡ x → y ≡ x → Lasts (progress_of t s l) more x
        waits (too_long i) f e = subst (Lasts (progress_of t s l) more) e (full i)
        waits (closed-empty i c z) f e = shut c f
        waits (cut_off i c z) f e = shut c f
        waits (still_open i c) f e = absurd (g (sym e))

        by : (a : Paper ℕ) → (read_of t (skipped_of s l) l).answer ≡ a → (hand_out a (skipped_of s l) (read_of t (skipped_of s l) l) l).answer ≡ x → Lasts (progress_of t s l) a x
        by (gives q) f e = absurd (h q f)
        by more f e = waits (waiting (progress_of t s l) (read_of t (skipped_of s l) l).readings) (ap (λ (y : Looked). y.answer) (wait_count (progress_of t s l) (read_of t (skipped_of s l) l).readings 0) ∙ e) e
        by (refused n vs) f e = subst (Lasts (progress_of t s l) (refused n vs)) e bad

    next_lasts : (x : Paper Handed) → (x ≡ more → ⊥) → (x ≡ refused strange_state [] → ⊥) → (HandsOut x → ⊥) → (next_by t s l).answer ≡ x → Lasting t (next_by t s l).state l x
    next_lasts x g i h e =
        let f : fits s (length l) ≡ true = fit_for t G s l x e i in
        let j : HandsOut (next_by t s l).answer → ⊥ = λ y. h (subst HandsOut e y) in
        let n : (q : ℕ) → (read_of t (skipped_of s l) l).answer ≡ gives q → ⊥ = none_found t G s l f w j in
        subst (λ (y : State). Lasting t y l x) (sym (left t G s l f w j)) (record {
          a = (read_of t (skipped_of s l) l).answer;
          stuck = progress_stuck t G s l (kept s (length l) f w) n;
          lasts = look_lasts x n g (sym (ap (λ (y : Looked). y.answer) (looks t G s l f w j)) ∙ e);
        })

    -- a refusal of next that is not 28, so 20, 21 or 22, comes again on each later next
    pub each_later_next : (n : ℕ) (vs : List ℕ) → (n ≡ strange_state → ⊥) → (next_by t s l).answer ≡ refused n vs → (cs : List Call) → (next_by t (run t (next_by t s l).state l cs).state (run t (next_by t s l).state l cs).buffer).answer ≡ refused n vs
    each_later_next n vs h e cs =
        let L = next_lasts (refused n vs) (λ f. let z : ◌≡◌ {A = ℕ} 0 1 = cc in omega arith) (λ f. h (cc)) (λ f. f) e in
        (lasting_next _ _ (refused n vs) (run_lasts (next_by t s l).state l cs (refused n vs) L)).0

    -- and so does the end
    pub each_later_end : (next_by t s l).answer ≡ gives ended → (cs : List Call) → (next_by t (run t (next_by t s l).state l cs).state (run t (next_by t s l).state l cs).buffer).answer ≡ gives ended
    each_later_end e cs =
        let L = next_lasts (gives ended) (λ f. let z : ◌≡◌ {A = ℕ} 0 1 = cc in omega arith) (λ f. let z : ◌≡◌ {A = ℕ} 0 1 = cc in omega arith) (λ f. f) e in
        (lasting_next _ _ (gives ended) (run_lasts (next_by t s l).state l cs (gives ended) L)).0
