-- Which bytes of the buffer a call looks at: none that are passed but a record's first, which the mark reads, and none past the filled
-- length. Assumes nothing.
use mathlib.Core.Path.{◌≡◌, refl, sym, ap, ap₂, subst, ◌∙◌}
use mathlib.Core.Bool.{Bool, true, false}
use mathlib.Core.List.{List, ◌++◌}
use Prim.Native.Nat.{ℕ, zero, suc, ◌+◌, ◌-◌, ◌≤◌, ◌<◌}
use native.Mathlib.Omega.{arith}
use lib.Dec.{eqb, ltb}
use lib.ListN.{length, get_or, take, drop}
use lib.Seq.{slice, length-slice, drop-drop}
use Rattle.refusal.specs.Paper.{Paper, gives, more, refused, Spot, spot, pick}
use Rattle.token.specs.declared.Kind.{Kind}
use Rattle.automaton.specs.Step.{Step, go, finished, wrong, deep, step}
use Rattle.kept.specs.declared.Blocks.{Blocks}
use Rattle.kept.specs.Kept.{due_of, blocks_of, blocks_then}
use Rattle.blocks.specs.Readings.{Reached, Reader, Grows, Onward, on_step, on_token, read_for, read_on, read_by}
use Rattle.reader.specs.declared.State.{State}
use Rattle.reader.specs.Fits.{fits, Fitting}
use Rattle.reader.specs.Calls.{buffered_of, offer_of, buffer_of, close_of, skipped_of, read_of, hand_out, look_of, next_by}
use Rattle.buffer.specs.Buffer.{separators}
use Rattle.blocks.proofs.Firsts.{pick_case}
use Rattle.buffer.proofs.Buffer.{slice_at}
use Rattle.reader.proofs.Shell.{fitting, skipped_fits, within, next_strange, next_looks}
use Rattle.stream.specs.Interface.{Unread}
use Rattle.history.specs.History.{taken_from}
use Rattle.history.proofs.Offers.{offered_buffered}
use Rattle.history.proofs.Stuck.{skip_rest}

module _ (t : Reader) (G : Grows t) (U : Unread t) (s u : List ℕ) (e : length s ≡ length u) where
  farther : (p q : ℕ) → p < q → drop p s ≡ drop p u → drop q s ≡ drop q u
  farther p q h d =
      let k : p + (q - p) ≡ q = omega arith in
      ap (λ (i : ℕ). drop i s) (sym k) ∙ sym (drop-drop (q - p) p s) ∙ ap (drop (q - p)) d ∙ drop-drop (q - p) p u ∙ ap (λ (i : ℕ). drop i u) k

  on_token_lem : (p : ℕ) (k k' : Onward) (b : Blocks) (n : ℕ) → drop p s ≡ drop p u → ((q : ℕ) (b : Blocks) (n : ℕ) → p < q → k q b n ≡ k' q b n) → on_token k p b n (t s p) ≡ on_token k' p b n (t u p)
  unfolding on_token on_step
  on_token_lem p k k' b n d h = by_read (t s p) refl ∙ ap (on_token k' p b n) (U s u p e d)
    where
      by_step : (first next : ℕ) → p < next → (x : Step) → on_step k first next p b n x ≡ on_step k' first next p b n x
      by_step first next g (go L c) = h next (blocks_then b L c) n g
      by_step first next g finished = refl
      by_step first next g (wrong m) = refl
      by_step first next g deep = refl

      by_read : (r : Paper (Spot Kind)) → t s p ≡ r → on_token k p b n r ≡ on_token k' p b n r
      by_read (gives (spot x first next)) f = by_step first next (G s p x first next f).0 (step (due_of b.due) (blocks_of b) x)
      by_read more f = refl
      by_read (refused m vs) f = refl

  run_unread : (f p : ℕ) (b : Blocks) (n : ℕ) → drop p s ≡ drop p u → read_for t s f p b n ≡ read_for t u f p b n
  unfolding read_for
  run_unread zero p b n d = refl
  run_unread (suc f) p b n d = ap₂ (λ (k : ℕ) (x : Reached). pick (ltb p k) x (record { place = p; readings = n; blocks = b; answer = more })) e (on_token_lem p (read_for t s f) (read_for t u f) b (n + 1) d (λ q c m g. run_unread f q c m (farther p q g d)))

  -- readings look at no byte before their place
  pub read_unread : (p : ℕ) (b : Blocks) → drop p s ≡ drop p u → read_by t s p b ≡ read_by t u p b
  unfolding read_on
  read_unread p b d = run_unread (suc (length s)) p b 0 d ∙ ap (λ (k : ℕ). read_for t u (suc k) p b 0) e

-- the mark alone reads the buffer
hand_same : (a : Paper ℕ) (s : State) (r : Reached) (l m : List ℕ) → get_or l s.start 0 ≡ get_or m s.start 0 → hand_out a s r l ≡ hand_out a s r m
hand_same (gives q) s r l m e = rw e refl
hand_same more s r l m e = refl
hand_same (refused n vs) s r l m e = refl

module _ (t : Reader) (G : Grows t) (s : State) (l m : List ℕ) (e : length l ≡ length m) where
  -- next on two buffers, by 28's test
  by_fits : (fits s (length l) ≡ true → look_of t (skipped_of s l) l ≡ look_of t (skipped_of s m) m) → next_by t s l ≡ next_by t s m
  by_fits h = by (fits s (length l)) refl
    where
      by : (b : Bool) → fits s (length l) ≡ b → next_by t s l ≡ next_by t s m
      by true f = next_looks t s l f ∙ h f ∙ sym (next_looks t s m (sym (ap (fits s) e) ∙ f))
      by false f = next_strange t s l f ∙ sym (next_strange t s m (sym (ap (fits s) e) ∙ f))

  -- the answer, the readings and the new state are the same whatever the passed bytes hold, the record's first byte excepted
  pub passed_bytes_unread : Unread t → (s.place ≡ s.start → ⊥) → slice s.place s.filled l ≡ slice s.place s.filled m → get_or l s.start 0 ≡ get_or m s.start 0 → next_by t s l ≡ next_by t s m
  passed_bytes_unread U h d g = by_fits looks
    where
      looks : fits s (length l) ≡ true → look_of t (skipped_of s l) l ≡ look_of t (skipped_of s m) m
      looks f =
          let F = fitting s (length l) f in
          let p = s.place - s.start in
          let k : s.start + p ≡ s.place = omega (arith, F.order) in
          let at : (x : List ℕ) → drop p (buffered_of s x) ≡ slice s.place s.filled x = λ x. drop-drop p s.start (take s.filled x) ∙ ap (λ (i : ℕ). drop i (take s.filled x)) k in
          let n : length (buffered_of s l) ≡ length (buffered_of s m) = length-slice s.start s.filled l F.within ∙ sym (length-slice s.start s.filled m (subst (λ (i : ℕ). s.filled ≤ i) e F.within)) in
          let r : read_of t s l ≡ read_of t s m = read_unread t G U (buffered_of s l) (buffered_of s m) n p s.blocks (at l ∙ d ∙ sym (at m)) in
          ap (λ (x : State). look_of t x l) (skip_rest s l (λ z. absurd (h z)))
          ∙ ap (λ (x : Reached). hand_out x.answer s x l) r ∙ hand_same (read_of t s m).answer s (read_of t s m) l m g
          ∙ sym (ap (λ (x : State). look_of t x m) (skip_rest s m (λ z. absurd (h z))))

  look_same : (x : State) → Fitting x (length l) → buffered_of x l ≡ buffered_of x m → look_of t x l ≡ look_of t x m
  look_same x F d = by (read_of t x l).answer refl ∙ ap (λ (b : List ℕ). let r = read_by t b (x.place - x.start) x.blocks in hand_out r.answer x r m) d
    where
      by : (a : Paper ℕ) → (read_of t x l).answer ≡ a → hand_out a x (read_of t x l) l ≡ hand_out a x (read_of t x l) m
      by (gives q) f =
          let w = (within t G x l F).whole q f in
          let z : x.start + 0 ≡ x.start = omega arith in
          let b : (n : List ℕ) → get_or (buffered_of x n) 0 0 ≡ get_or n x.start 0 = λ n. slice_at n x.start x.filled 0 (omega (arith, w)) ∙ ap (λ (i : ℕ). get_or n i 0) z in
          hand_same (gives q) x (read_of t x l) l m (sym (b l) ∙ ap (λ (n : List ℕ). get_or n 0 0) d ∙ b m)
      by more f = refl
      by (refused n vs) f = refl

  -- bytes past the filled length are not looked at by next
  module _ (d : buffered_of s l ≡ buffered_of s m) where
    skip_same : skipped_of s l ≡ skipped_of s m
    unfolding skipped_of
    skip_same = rw d refl

    -- the bytes behind those that are skipped
    skipped_part : (x : List ℕ) → buffered_of (skipped_of s x) x ≡ drop ((skipped_of s x).start - s.start) (buffered_of s x)
    unfolding skipped_of
    skipped_part x =
        pick_case (λ (y : State). buffered_of y x ≡ drop (y.start - s.start) (buffered_of s x)) (eqb s.place s.start) _ s
        (λ _. let k = separators (buffered_of s x) in let z : (s.start + k) - s.start ≡ k = omega arith in rw z (sym (drop-drop k s.start (take s.filled x))))
        (λ _. let z : s.start - s.start ≡ 0 = omega arith in rw z refl)

    part_same : buffered_of (skipped_of s l) l ≡ buffered_of (skipped_of s l) m
    part_same = skipped_part l ∙ ap₂ (λ (x : State) (b : List ℕ). drop (x.start - s.start) b) skip_same d ∙ sym (skipped_part m) ∙ ap (λ (x : State). buffered_of x m) (sym skip_same)

    pub past_filled_unread : next_by t s l ≡ next_by t s m
    past_filled_unread = by_fits (λ f. look_same (skipped_of s l) (skipped_fits s l (fitting s (length l) f)) part_same ∙ ap (λ (x : State). look_of t x m) skip_same)

    -- nor by offering and closing, which see no more of the buffer than its length; and what is buffered after a piece is the same
    pub past_filled_offer : (piece : List ℕ) → (offer_of s (length l) (length piece) ≡ offer_of s (length m) (length piece)) × (buffered_of (offer_of s (length l) (length piece)).state (buffer_of s piece l) ≡ buffered_of (offer_of s (length m) (length piece)).state (buffer_of s piece m))
    past_filled_offer piece = (
      ap (λ (n : ℕ). offer_of s n (length piece)) e,
      offered_buffered s piece l ∙ ap₂ (λ (b : List ℕ) (n : ℕ). b ++ taken_from (offer_of s n (length piece)).answer piece) d e ∙ sym (offered_buffered s piece m),
    )

    pub past_filled_close : close_of s (length l) ≡ close_of s (length m)
    past_filled_close = ap (close_of s) e
