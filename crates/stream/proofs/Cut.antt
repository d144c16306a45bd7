-- However a stream is cut into pieces, the trace of the calls tells the whole stream. Assumes nothing.
use mathlib.Core.Path.{◌≡◌, refl, sym, ap, subst, ◌∙◌}
use mathlib.Core.Bool.{Bool, true, false}
use mathlib.Core.List.{List, [], ◌∷◌, ◌++◌, append_assoc}
use Prim.Native.Nat.{ℕ, zero, suc, ◌+◌, ◌-◌, ◌*◌, ◌≤◌, ◌<◌, min}
use native.Mathlib.Nat.{min-le_left, min-le_right, min-eq_left, min-eq_right, le_of_lt}
use native.Mathlib.Omega.{arith}
use lib.Dec.{eqb, leb}
use lib.ListN.{length, take, drop, length-append, length-drop, take-append-drop}
use lib.Seq.{length-take-le, take_at, drop-length}
use borrow.Author.Tests.{eqb-true, eqb-false, le-leb, leb-true, leb-false}
use Rattle.refusal.specs.Paper.{pick}
use Rattle.blocks.specs.Readings.{Reader}
use Rattle.kept.specs.Kept.{no_blocks}
use Rattle.reader.specs.declared.State.{State}
use Rattle.places.specs.Places.{least_buffer, most_buffer, most_offset, offset_fits}
use Rattle.places.proofs.Tests.{in_range}
use Rattle.reader.specs.Fits.{held_of, fits}
use Rattle.reader.specs.Meaning.{Told}
use Rattle.reader.specs.Calls.{taken_of, filled_by, new_state, shut_state, buffered_of, open_of, close_of}
use Rattle.reader.proofs.Shell.{offer_taken, buffer_taken}
use Rattle.stream.specs.Interface.{TokenReader}
use Rattle.stream.specs.Drive.{Trace, after_offer, drive_by, joined, enough}
use Rattle.stream.proofs.Telling.{Telling, whole_in, means, means_none}
use Rattle.stream.proofs.State.{Inv, inv_fits, held_is, shut_inv, new_inv}
use Rattle.stream.proofs.Next.{meaning, next_tells}

-- ---- a piece

module _ (n : ℕ) (s : State) (l p : List ℕ) (I : Inv n s l) where
  abbrev taken : ℕ
  taken = taken_of s (length l) (length p)

  -- the buffer after it
  abbrev buffer : List ℕ
  buffer = (buffered_of s l ++ take taken p) ++ drop (held_of s + taken) l

  taken_piece : taken ≤ length p
  taken_piece = min-le_left (length p) (length l - held_of s)

  taken_room : taken ≤ length l - held_of s
  taken_room = min-le_right (length p) (length l - held_of s)

  front : length (buffered_of s l ++ take taken p) ≡ held_of s + taken
  front = omega (arith, length-append (buffered_of s l) (take taken p), held_is n s l I, length-take-le taken p taken_piece)

  as_long : length buffer ≡ n
  as_long = omega (arith, length-append (buffered_of s l ++ take taken p) (drop (held_of s + taken) l), front, length-drop (held_of s + taken) l, taken_room, I.fit.within, I.size)

  offer_inv : s.offset + (held_of s + length p) ≤ most_offset → Inv n (filled_by s taken) buffer
  offer_inv h =
      let F = I.fit in
      let a = taken_piece in
      let b = taken_room in
      let m = I.size in
      let y : s.place - s.start - 0 ≡ s.place - s.start = omega arith in
      record {
        size = as_long;
        fit = record { len = F.len; low = F.low; high = F.high; order = omega arith; passed = omega arith; within = omega arith; sum = omega arith; depth = F.depth };
        good = rw y I.good;
        blank = λ z. I.blank (omega arith);
      }

  offer_means : (t : Reader) {X : Type 0} (M : Telling n X) (U : List ℕ) → meaning t M (filled_by s taken) buffer (drop taken p ++ U) ≡ meaning t M s l (p ++ U)
  offer_means t M U =
      let k : s.place - s.start - 0 ≡ s.place - s.start = omega arith in
      let f : take (held_of s + taken) buffer ≡ buffered_of s l ++ take taken p = take_at (buffered_of s l ++ take taken p) (drop (held_of s + taken) l) (held_of s + taken) front in
      let a : take (held_of s + taken) buffer ++ (drop taken p ++ U) ≡ buffered_of s l ++ (p ++ U) =
      ap (λ (x : List ℕ). x ++ (drop taken p ++ U)) f ∙ append_assoc (buffered_of s l) (take taken p) (drop taken p ++ U)
      ∙ ap (λ (x : List ℕ). buffered_of s l ++ x) (sym (append_assoc (take taken p) (drop taken p) U) ∙ ap (λ (x : List ℕ). x ++ U) (take-append-drop taken p)) in
      λ i. means t M s.blocks (k i) s.offset (a i)

-- ---- the calls

-- the calls that closing is still to come with
abbrev debt : Bool → ℕ
debt b = pick b 0 2

-- how many calls are left at most
abbrev calls : Bool → State → List (List ℕ) → ℕ
calls asks s ps = held_of s + 3 * length (joined ps) + 2 * length ps + pick asks 1 0 + debt s.closed + 1

close_is : (s : State) (n : ℕ) → fits s n ≡ true → (close_of s n).state ≡ shut_state s
unfolding close_of
close_is s n e = rw e refl

joined_cons : (p : List ℕ) (ps : List (List ℕ)) → joined (p ∷ ps) ≡ p ++ joined ps
unfolding joined
joined_cons p ps = refl

joined_nil : joined [] ≡ []
unfolding joined
joined_nil = refl

min_pos : (a b : ℕ) → 0 < b → (min a b ≡ a → ⊥) → 0 < min a b
min_pos a b pos ne = at (leb a b) refl
  where
    at : (t : Bool) → leb a b ≡ t → 0 < min a b
    at true e = let le : a ≤ b = leb-true _ _ e in absurd (ne (min-eq_left le))
    at false e = let lt : b < a = leb-false _ _ e in rw (min-eq_right (le_of_lt lt)) pos

not-true : {A : Type 0} → ◌≡◌ {A = Bool} false true → A
not-true e = let z : ◌≡◌ {A = ℕ} 0 1 = cc in absurd (omega arith)

not-false : {A : Type 0} → ◌≡◌ {A = Bool} true false → A
not-false e = let z : ◌≡◌ {A = ℕ} 0 1 = cc in absurd (omega arith)

module _ (t : Reader) (T : TokenReader t) {X : Type 0} {n : ℕ} (M : Telling n X) where
  -- the calls from a state on where next is due
  abbrev Asked : ℕ → Type 0
  Asked f = (s : State) (l : List ℕ) (ps : List (List ℕ)) → Inv n s l → s.offset + (held_of s + length (joined ps)) ≤ most_offset → (s.closed ≡ true → ps ≡ [])
      → calls true s ps ≤ f → M.Says (drive_by t f true s l ps) (meaning t M s l (joined ps))

  offer_case : (f : ℕ) (s : State) (l p : List ℕ) (ps : List (List ℕ)) (I : Inv n s l) → s.offset + (held_of s + length (joined (p ∷ ps))) ≤ most_offset → held_of s < n
      → s.closed ≡ false → calls false s (p ∷ ps) ≤ suc f → Asked f → (q : Bool) → eqb (taken n s l p I) (length p) ≡ q
      → M.Says (drive_by t f true (filled_by s (taken n s l p I)) (buffer n s l p I) (pick (eqb (taken n s l p I) (length p)) ps (drop (taken n s l p I) p ∷ ps)))
      (meaning t M (filled_by s (taken n s l p I)) (buffer n s l p I) (drop (taken n s l p I) p ++ joined ps))
  offer_case f s l p ps I o room unshut h ih true e =
      let k = taken_of s (length l) (length p) in
      let q : k ≡ length p = eqb-true _ _ e in
      let len : length (joined (p ∷ ps)) ≡ length p + length (joined ps) = ap length (joined_cons p ps) ∙ length-append p (joined ps) in
      let d : drop k p ≡ [] = ap (λ (i : ℕ). drop i p) q ∙ drop-length p in
      let c : debt s.closed ≡ 2 = ap debt unshut in
      rw (e, d) (ih (filled_by s k) (buffer n s l p I) ps (offer_inv n s l p I (omega arith)) (omega arith) (λ z. not-true (sym unshut ∙ z)) (omega arith))
  offer_case f s l p ps I o room unshut h ih false e =
      let k = taken_of s (length l) (length p) in
      let ne : k ≡ length p → ⊥ = eqb-false _ _ e in
      let le : k ≤ length p = taken_piece n s l p I in
      let pos : 0 < k = min_pos (length p) (length l - held_of s) (omega (arith, I.size)) ne in
      let len : length (joined (p ∷ ps)) ≡ length p + length (joined ps) = ap length (joined_cons p ps) ∙ length-append p (joined ps) in
      let len' : length (joined (drop k p ∷ ps)) ≡ length p - k + length (joined ps) =
      ap length (joined_cons (drop k p) ps) ∙ length-append (drop k p) (joined ps) ∙ ap (λ (m : ℕ). m + length (joined ps)) (length-drop k p) in
      let c : debt s.closed ≡ 2 = ap debt unshut in
      rw e (subst (M.Says (drive_by t f true (filled_by s k) (buffer n s l p I) (drop k p ∷ ps))) (ap (meaning t M (filled_by s k) (buffer n s l p I)) (joined_cons (drop k p) ps))
      (ih (filled_by s k) (buffer n s l p I) (drop k p ∷ ps) (offer_inv n s l p I (omega arith)) (omega arith) (λ z. not-true (sym unshut ∙ z)) (omega arith)))

  says : (f : ℕ) (asks : Bool) (s : State) (l : List ℕ) (ps : List (List ℕ)) → Inv n s l → s.offset + (held_of s + length (joined ps)) ≤ most_offset → (s.closed ≡ true → ps ≡ [])
      → (asks ≡ false → (held_of s < n) × (s.closed ≡ false)) → calls asks s ps ≤ f → M.Says (drive_by t f asks s l ps) (meaning t M s l (joined ps))
  unfolding drive_by
  says zero asks s l ps I o shut wait h = absurd (omega arith)
  says (suc f) true s l ps I o shut wait h =
      (next_tells t T M s l (joined ps) I (λ e. ap joined (shut e) ∙ joined_nil) (λ asks u. drive_by t f asks u l ps)
      (λ u G.
      let N = G.moved in
      let c : debt u.closed ≡ debt s.closed = ap debt N.closed in
      says f true u l ps N.inv (omega (arith, N.sum)) (λ e. shut (sym N.closed ∙ e)) (λ e. not-false e) (omega (arith, G.less)))
      (λ u W.
      let N = W.moved in
      let c : debt u.closed ≡ debt s.closed = ap debt N.closed in
      says f false u l ps N.inv (omega (arith, N.sum)) (λ e. shut (sym N.closed ∙ e)) (λ e. (W.room, N.closed ∙ W.unshut)) (omega (arith, N.held)))
      ).it
  says (suc f) false s l [] I o shut wait h =
      let c : debt s.closed ≡ 2 = ap debt (wait refl).1 in
      rw (close_is s (length l) (inv_fits n s l I)) (says f true (shut_state s) l [] (shut_inv n s l I) o (λ _. refl) (λ e. not-false e) (omega arith))
  says (suc f) false s l (p ∷ ps) I o shut wait h =
      let k = taken_of s (length l) (length p) in
      let fit = inv_fits n s l I in
      let o' : offset_fits (s.offset + held_of s) (length p) ≡ true = le-leb (s.offset + held_of s + length p) most_offset (omega (arith, ap length (joined_cons p ps), length-append p (joined ps))) in
      let after : (x : Told ℕ) (b : List ℕ) → Trace = λ x b. after_offer x.answer (λ k. drive_by t f true x.state b (pick (eqb k (length p)) ps (drop k p ∷ ps))) in
      subst (λ (x : Trace). M.Says x (meaning t M s l (joined (p ∷ ps))))
      (sym ((λ i. after (offer_taken s (length l) (length p) fit (wait refl).1 o' i) (buffer_taken s p l fit (wait refl).1 o' i))))
      (subst (M.Says (drive_by t f true (filled_by s k) (buffer n s l p I) (pick (eqb k (length p)) ps (drop k p ∷ ps))))
      (offer_means n s l p I t M (joined ps) ∙ ap (meaning t M s l) (sym (joined_cons p ps)))
      (offer_case f s l p ps I o (wait refl).0 (wait refl).1 h (λ s l ps I o shut h. says f true s l ps I o shut (λ e. not-false e) h) (eqb k (length p)) refl))

-- opened at the offset o over any buffer that is not refused, and handed a stream in any pieces
module _ (t : Reader) (T : TokenReader t) (ps : List (List ℕ)) (l : List ℕ) (o f : ℕ) (low : least_buffer ≤ length l) (high : length l ≤ most_buffer) (sum : o + length (joined ps) ≤ most_offset) (fuel : enough ps ≤ f) where
  pub opened_says : {X : Type 0} (M : Telling (length l) X) → M.Says (drive_by t f false (open_of o (length l)).state l ps) (whole_in t M (joined ps) o)
  unfolding open_of
  opened_says M =
      rw (in_range (length l) low high)
      (subst (M.Says (drive_by t f false (new_state (length l) o) l ps)) (means_none t T M no_blocks 0 o (joined ps) refl)
      (says t T M f false (new_state (length l) o) l ps (new_inv o l low high (omega arith)) (omega arith) (λ e. not-true e) (λ _. (omega arith, refl)) (omega arith)))
