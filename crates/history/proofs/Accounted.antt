-- Every byte taken is in one handed-out record, one skipped separator, or still buffered, over any history of calls. Assumes nothing.
use mathlib.Core.Path.{◌≡◌, refl, sym, ap, ap₂, subst, ◌∙◌}
use mathlib.Core.Bool.{Bool, true, false}
use mathlib.Core.List.{List, [], ◌∷◌, ◌++◌, append-nil, append_assoc}
use Prim.Native.Nat.{ℕ, suc, ◌+◌, ◌-◌, ◌≤◌}
use native.Mathlib.Omega.{arith}
use lib.Dec.{eqb}
use lib.ListN.{length, take, drop, length-append, take-append-drop}
use lib.Seq.{slice, slice_empty, length-slice, length-take-le, take-take, drop-append-le}
use borrow.Author.Tests.{le-ltb}
use Rattle.refusal.specs.Paper.{Paper, gives, more, refused, pick}
use Rattle.blocks.specs.Readings.{Reached, Reader, Grows}
use Rattle.reader.specs.declared.State.{State}
use Rattle.places.specs.Places.{is_buffer}
use Rattle.reader.specs.Fits.{fits, Fitting}
use Rattle.reader.specs.Meaning.{Done, done, Handed, Told, Looked}
use Rattle.reader.specs.Calls.{new_state, open_of, buffered_of, close_of, state_at, skipped_of, read_of, wait_of, hand_out, look_of, next_by}
use Rattle.buffer.specs.Buffer.{is_separator, separators, record_of}
use Rattle.blocks.proofs.Firsts.{pick_case}
use Rattle.buffer.proofs.Buffer.{seps_le, part_is}
use Rattle.reader.proofs.Shell.{fitting, skipped_fits, within, next_strange, next_looks}
use Rattle.history.specs.History.{Call, offer, next, close, Part, record_at, skipped, Came, came, parts_of, call_of, and_then, run, bytes_of, all_of, AllSeparators, InOrder, Accounted}
use Rattle.history.proofs.Offers.{Offering, accepted, turned_away, offering, offered_buffered}
use Rattle.history.proofs.Kept.{wait_state}
use Rattle.history.proofs.Stuck.{Waiting, too_long, at_end, cut_off, still_open, waiting}

-- ---- bytes

-- two parts that meet are one
slice_join : (a b c : ℕ) (l : List ℕ) → a ≤ b → b ≤ c → c ≤ length l → slice a b l ++ slice b c l ≡ slice a c l
slice_join a b c l h g k =
    sym (drop-append-le a (take b l) (slice b c l) (omega (arith, length-take-le b l (omega arith))))
    ∙ ap (drop a) (ap (λ (x : List ℕ). x ++ slice b c l) (sym (take-take b c l g)) ∙ take-append-drop b (take c l))

-- the front of a part
front_part : (a k c : ℕ) (l : List ℕ) → k ≤ c - a → slice a (a + k) l ≡ take k (slice a c l)
front_part a k c l h =
    let z : (a + k) - a ≡ k = omega arith in
    sym (part_is a (a + k) l) ∙ ap (λ (i : ℕ). take i (drop a l)) z ∙ sym (take-take k (c - a) (drop a l) h) ∙ ap (take k) (part_is a c l)

-- a record's bytes, within the buffer
record_is : (l : List ℕ) (p n : ℕ) → p + n ≤ length l → record_of l p n ≡ slice p (p + n) l
record_is l p n h =
    let z : (p + n) - p ≡ n = omega arith in
    rw (le-ltb (length l) p (omega arith), le-ltb (length l - p) n (omega arith)) (ap (λ (k : ℕ). take k (drop p l)) (sym z) ∙ part_is p (p + n) l)

-- the separators that a list starts with are separators
front_separators : (l : List ℕ) → AllSeparators (take (separators l) l)
unfolding separators AllSeparators
front_separators [] = tt
front_separators (x ∷ xs) = by (front_separators xs) (is_separator x) refl
  where
    by : AllSeparators (take (separators xs) xs) → (b : Bool) → is_separator x ≡ b → AllSeparators (take (pick b (suc (separators xs)) 0) (x ∷ xs))
    by h true e = (e, h)
    by h false e = tt

-- ---- parts

all_append : (xs ys : List Part) → all_of (xs ++ ys) ≡ all_of xs ++ all_of ys
unfolding all_of
all_append [] ys = refl
all_append (x ∷ xs) ys = ap (λ (b : List ℕ). bytes_of x ++ b) (all_append xs ys) ∙ sym (append_assoc (bytes_of x) (all_of xs) (all_of ys))

in_order_append : (o : ℕ) (xs ys : List Part) → InOrder o xs → InOrder (o + length (all_of xs)) ys → InOrder o (xs ++ ys)
unfolding InOrder all_of
in_order_append o [] ys h g = let z : o + 0 ≡ o = omega arith in rw z at g
in_order_append o (x ∷ xs) ys h g =
    let z : o + length (bytes_of x ++ all_of xs) ≡ o + length (bytes_of x) + length (all_of xs) = omega (arith, length-append (bytes_of x) (all_of xs)) in
    (h.0, in_order_append (o + length (bytes_of x)) xs ys h.1 (rw z at g))

-- nothing happened
nothing : (s : State) (l : List ℕ) → Accounted s l (came s l [] [] 0)
unfolding all_of InOrder
nothing s l = record { bytes = append-nil (buffered_of s l); offset = omega arith; order = tt }

-- an account, and that of the calls behind it
both : (s : State) (l : List ℕ) (a b : Came) → Accounted s l a → Accounted a.state a.buffer b → Accounted s l (and_then a b)
both s l a b A B =
    record {
      bytes =
          sym (append_assoc (buffered_of s l) a.taken b.taken) ∙ ap (λ (x : List ℕ). x ++ b.taken) A.bytes
          ∙ append_assoc (all_of a.parts) (buffered_of a.state a.buffer) b.taken ∙ ap (λ (x : List ℕ). all_of a.parts ++ x) B.bytes
          ∙ sym (append_assoc (all_of a.parts) (all_of b.parts) (buffered_of b.state b.buffer)) ∙ ap (λ (x : List ℕ). x ++ buffered_of b.state b.buffer) (sym (all_append a.parts b.parts));
      offset = omega (arith, ap length (all_append a.parts b.parts), length-append (all_of a.parts) (all_of b.parts), A.offset, B.offset);
      order = in_order_append s.offset a.parts b.parts A.order (subst (λ (o : ℕ). InOrder o b.parts) (sym A.offset) B.order);
    }

-- ---- one call

offer_accounted : (t : Reader) (s : State) (l piece : List ℕ) → Accounted s l (call_of t s l (offer piece))
unfolding call_of all_of InOrder
offer_accounted t s l piece = record { bytes = sym (offered_buffered s piece l); offset = by (offering s piece l); order = tt }
  where
    by : {x : Told ℕ} {m : List ℕ} → Offering s piece l x m → s.offset + 0 ≡ x.state.offset
    by (accepted a b c) = omega arith
    by (turned_away n) = omega arith

close_accounted : (t : Reader) (s : State) (l : List ℕ) → Accounted s l (call_of t s l close)
unfolding call_of all_of InOrder close_of
close_accounted t s l =
    pick_case (λ (x : Told Done). Accounted s l (came x.state l [] [] 0)) (fits s (length l)) _ _
    (λ _. record { bytes = append-nil (buffered_of s l); offset = omega arith; order = tt })
    (λ _. record { bytes = append-nil (buffered_of s l); offset = omega arith; order = tt })

-- what separators leave: the first byte and the offset go on by as many
record Skips (s : State) (l : List ℕ) (x : State) : Type 0 where
  from : s.start ≤ x.start
  offset : s.offset + (x.start - s.start) ≡ x.offset
  filled : x.filled ≡ s.filled
  separators_only : AllSeparators (slice s.start x.start l)

skips : (s : State) (l : List ℕ) → Fitting s (length l) → Skips s l (skipped_of s l)
unfolding skipped_of AllSeparators
skips s l F =
    let k = separators (buffered_of s l) in
    let le : k ≤ s.filled - s.start = rw (length-slice s.start s.filled l F.within) at (seps_le (buffered_of s l)) in
    pick_case (Skips s l) (eqb s.place s.start) (state_at s (s.offset + k) (s.start + k) (s.start + k) s.blocks) s
    (λ _. record { from = omega arith; offset = omega arith; filled = refl; separators_only = rw (front_part s.start k s.filled l le) (front_separators (buffered_of s l)) })
    (λ _. record { from = omega arith; offset = omega arith; filled = refl; separators_only = rw (slice_empty s.start l) tt })

-- what came of an answer of next
abbrev came_of : State → List ℕ → Looked → Came
came_of s l x = came x.state l [] (parts_of s.start l x.answer x.state.start) 0

module _ (s : State) (l : List ℕ) (F : Fitting s (length l)) where
  -- separators skipped, and nothing more
  skipped_accounted : (x : State) → Skips s l x → x.start ≤ x.filled → Accounted s l (came x l [] (skipped (slice s.start x.start l) ∷ []) 0)
  unfolding all_of InOrder
  skipped_accounted x S h =
      let f : x.start ≤ s.filled = omega (arith, S.filled) in
      record {
        bytes =
            append-nil (buffered_of s l) ∙ sym (slice_join s.start x.start s.filled l S.from f F.within)
            ∙ ap₂ (λ (a : List ℕ) (n : ℕ). a ++ slice x.start n l) (sym (append-nil (slice s.start x.start l))) (sym S.filled);
        offset = omega (arith, ap length (append-nil (slice s.start x.start l)), length-slice s.start x.start l (omega (arith, F.within)), S.offset);
        order = (S.separators_only, tt);
      }

  -- and a record of q bytes handed out behind them
  record_accounted : (x y : State) (q : ℕ) → Skips s l x → x.start + q ≤ x.filled → y.start ≡ x.start + q → y.offset ≡ x.offset + q → y.filled ≡ x.filled
      → Accounted s l (came y l [] (skipped (slice s.start x.start l) ∷ record_at x.offset (record_of l x.start q) ∷ []) 0)
  unfolding all_of InOrder
  record_accounted x y q S h a b c =
      let f : x.start + q ≤ s.filled = omega (arith, S.filled) in
      let R : record_of l x.start q ≡ slice x.start (x.start + q) l = record_is l x.start q (omega (arith, F.within)) in
      let n : length (slice s.start x.start l) ≡ x.start - s.start = length-slice s.start x.start l (omega (arith, F.within)) in
      let m : length (record_of l x.start q) ≡ q = ap length R ∙ length-slice x.start (x.start + q) l (omega (arith, F.within)) ∙ omega arith in
      record {
        bytes =
            append-nil (buffered_of s l) ∙ sym (slice_join s.start x.start s.filled l S.from (omega arith) F.within)
            ∙ ap (λ (z : List ℕ). slice s.start x.start l ++ z) (sym (slice_join x.start (x.start + q) s.filled l (omega arith) f F.within))
            ∙ sym (append_assoc (slice s.start x.start l) (slice x.start (x.start + q) l) (slice (x.start + q) s.filled l))
            ∙ ap₂ (λ (z w : List ℕ). (slice s.start x.start l ++ z) ++ w) (sym R ∙ sym (append-nil (record_of l x.start q))) (ap₂ (λ (i j : ℕ). slice i j l) (sym a) (sym (c ∙ S.filled)));
        offset = omega (arith, length-append (slice s.start x.start l) (record_of l x.start q ++ []), ap length (append-nil (record_of l x.start q)), n, m, S.offset);
        order = (S.separators_only, (omega (arith, n, S.offset), tt));
      }

-- waiting hands out no record
waits_parts : (start : ℕ) (l : List ℕ) (now : ℕ) {x : State} {a : Paper Handed} → Waiting x a → parts_of start l a now ≡ skipped (slice start now l) ∷ []
waits_parts start l now (too_long h) = refl
waits_parts start l now (at_end h c z) = refl
waits_parts start l now (cut_off h c z) = refl
waits_parts start l now (still_open h c) = refl

-- an accepted opening
opened_state : (o n : ℕ) → (open_of o n).answer ≡ gives done → (open_of o n).state ≡ new_state n o
unfolding open_of
opened_state o n =
    pick_case (λ (x : Told Done). x.answer ≡ gives done → x.state ≡ new_state n o) (is_buffer n) _ _
    (λ _ e. refl)
    (λ _ e. let z : ◌≡◌ {A = ℕ} 0 1 = cc in absurd (omega arith))

module _ (t : Reader) (G : Grows t) where
  look_accounted : (s : State) (l : List ℕ) → Fitting s (length l) → Accounted s l (came_of s l (look_of t (skipped_of s l) l))
  look_accounted s l F = by r.answer refl
    where
      x : State
      x = skipped_of s l

      r : Reached
      r = read_of t x l

      X : Fitting x (length l)
      X = skipped_fits s l F

      S : Skips s l x
      S = skips s l F

      left : State
      left = state_at x x.offset x.start (x.start + r.place) r.blocks

      unhanded : Accounted s l (came left l [] (skipped (slice s.start x.start l) ∷ []) 0)
      unhanded = skipped_accounted s l F left (record { from = S.from; offset = S.offset; filled = S.filled; separators_only = S.separators_only }) (omega (arith, X.order, X.passed))

      by : (a : Paper ℕ) → r.answer ≡ a → Accounted s l (came_of s l (hand_out a x r l))
      by (gives q) e = let w = (within t G x l X).whole q e in record_accounted s l F x (state_at x (x.offset + q) (x.start + q) (x.start + q) r.blocks) q S (omega (arith, w)) refl refl refl
      by more e = subst (λ (y : State). Accounted s l (came y l [] (parts_of s.start l (wait_of left r.readings).answer y.start) 0)) (sym (wait_state left r.readings)) (rw (waits_parts s.start l x.start (waiting left r.readings)) unhanded)
      by (refused n vs) e = unhanded

  next_accounted : (s : State) (l : List ℕ) → Accounted s l (call_of t s l next)
  unfolding call_of all_of InOrder AllSeparators
  next_accounted s l = by (fits s (length l)) refl
    where
      by : (b : Bool) → fits s (length l) ≡ b → Accounted s l (came_of s l (next_by t s l))
      by true f = rw (next_looks t s l f) (look_accounted s l (fitting s (length l) f))
      by false f = rw (next_strange t s l f, slice_empty s.start l) (record { bytes = append-nil (buffered_of s l); offset = omega arith; order = (tt, tt) })

  call_accounted : (s : State) (l : List ℕ) (c : Call) → Accounted s l (call_of t s l c)
  call_accounted s l (offer piece) = offer_accounted t s l piece
  call_accounted s l next = next_accounted s l
  call_accounted s l close = close_accounted t s l

  -- any history of calls, from any state and buffer
  pub accounted : (s : State) (l : List ℕ) (cs : List Call) → Accounted s l (run t s l cs)
  unfolding run
  accounted s l [] = nothing s l
  accounted s l (c ∷ cs) = both s l (call_of t s l c) (run t (call_of t s l c).state (call_of t s l c).buffer cs) (call_accounted s l c) (accounted (call_of t s l c).state (call_of t s l c).buffer cs)

  -- from an accepted opening: all bytes taken, and the offset from the start offset on
  pub accounted_from_opening : (o n : ℕ) (l : List ℕ) (cs : List Call) → (open_of o n).answer ≡ gives done →
      ((run t (open_of o n).state l cs).taken ≡ all_of (run t (open_of o n).state l cs).parts ++ buffered_of (run t (open_of o n).state l cs).state (run t (open_of o n).state l cs).buffer)
      × (o + length (all_of (run t (open_of o n).state l cs).parts) ≡ (run t (open_of o n).state l cs).state.offset)
      × InOrder o (run t (open_of o n).state l cs).parts
  accounted_from_opening o n l cs e = rw (opened_state o n e) (let A = accounted (new_state n o) l cs in (A.bytes, A.offset, A.order))
