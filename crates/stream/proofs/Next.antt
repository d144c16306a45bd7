-- One call of next tells what the state stood for. Assumes nothing.
use mathlib.Core.Path.{◌≡◌, refl, sym, ap, subst, ◌∙◌}
use mathlib.Core.Bool.{Bool, true, false}
use mathlib.Core.List.{List, [], ◌∷◌, ◌++◌, append-nil}
use Prim.Native.Nat.{ℕ, zero, suc, ◌+◌, ◌-◌, ◌≤◌, ◌<◌}
use native.Mathlib.Omega.{arith}
use lib.Dec.{eqb, ltb, leb}
use lib.ListN.{length, get_or, take, drop, length-append, get_or-append}
use lib.Seq.{slice, drop-drop, take-take, take-nil, take-append-le, drop-append-le}
use borrow.Author.Tests.{le-ltb, leb-true, leb-false, eqb-true, eqb-false}
use Rattle.refusal.specs.Numbers.{cut_short, record_too_long}
use Rattle.refusal.specs.Paper.{Paper, gives, more, refused, pick}
use Rattle.kept.specs.declared.Blocks.{Blocks}
use Rattle.blocks.specs.Readings.{Reached, reached, Reader}
use Rattle.reader.specs.declared.State.{State}
use Rattle.reader.specs.Fits.{held_of}
use Rattle.reader.specs.Meaning.{handed, ended, Looked, looked}
use Rattle.reader.specs.Calls.{skipped_of, state_at, buffered_of, mark_of, wait_of, hand_out, next_by}
use Rattle.buffer.specs.Buffer.{separators, record_of}
use Rattle.blocks.proofs.Firsts.{pick_case}
use Rattle.buffer.proofs.Buffer.{slice_at}
use Rattle.reader.proofs.Shell.{next_looks}
use Rattle.stream.specs.Interface.{TokenReader}
use Rattle.stream.specs.Drive.{Trace, heard, stopped, hearing, after_next}
use Rattle.stream.proofs.Open.{Good, good_none}
use Rattle.stream.proofs.Turns.{Reads, read, on_is, reads_to, reads_some, reads_record, reads_counted, reads_good, reads_still}
use Rattle.stream.proofs.Records.{behind, behind_some, skips}
use Rattle.stream.proofs.Telling.{Telling, one_by, whole_in, means, means_none, means_done, means_last, means_more, means_end}
use Rattle.stream.proofs.State.{Inv, Gone, Waits, inv_fits, held_is, skip_moved, skip_ready, moved_then}

-- ---- bytes

take_slice : (f p t : ℕ) (l : List ℕ) → f + p ≤ t → take p (slice f t l) ≡ take p (drop f l)
take_slice zero p t l h = take-take p t l (omega arith)
take_slice (suc f) p zero l h = absurd (omega arith)
take_slice (suc f) p (suc t) [] h = refl
take_slice (suc f) p (suc t) (x ∷ xs) h = take_slice f p t xs (omega arith)

-- a record's bytes are the first of those buffered
record_take : (l : List ℕ) (f t q : ℕ) → f + q ≤ t → t ≤ length l → record_of l f q ≡ take q (slice f t l)
record_take l f t q h k = rw (le-ltb (length l) f (omega arith), le-ltb (length l - f) q (omega arith)) (sym (take_slice f q t l h))

-- ---- what a state stands for

-- a state and its buffer, where the bytes U follow
abbrev pub meaning : {X : Type 0} {n : ℕ} → Reader → Telling n X → State → List ℕ → List ℕ → X
meaning t M s l U = means t M s.blocks (s.place - s.start) s.offset (buffered_of s l ++ U)

-- the trace that starts with a call of next tells v: `D true` follows behind a record, and `D false` where more is wanted
pub record Tells {X : Type 0} {n : ℕ} (M : Telling n X) (D : Bool → State → Trace) (l : List ℕ) (v : X) (x : Looked) : Type 0 where
  pub it : M.Says (heard (hearing x l) (after_next x.answer (λ asks. D asks x.state))) v

module _ (t : Reader) (T : TokenReader t) {X : Type 0} {n : ℕ} (M : Telling n X) where
  module _ (s : State) (l U : List ℕ) (I : Inv n s l) (ready : s.place - s.start ≡ 0 → separators (buffered_of s l) ≡ 0) (shut : s.closed ≡ true → U ≡ [])
      (D : Bool → State → Trace) (again : (u : State) → Gone n s l u → M.Says (D true u) (meaning t M u l U)) (wait : (u : State) → Waits n s l u → M.Says (D false u) (meaning t M u l U))
      (c e z : ℕ) (b : Blocks) where
    abbrev B : List ℕ
    B = buffered_of s l

    abbrev k : ℕ
    k = s.place - s.start

    abbrev on : ℕ → X
    on = behind M.end (one_by t M) (B ++ U) s.offset

    long : length B ≡ s.filled - s.start
    long = held_is n s l I

    k_b : k ≤ length B
    k_b = omega (arith, long, I.fit.order, I.fit.passed)

    n_b : length B ≤ n
    n_b = omega (arith, long, I.fit.within)

    -- a record
    tells_record : (q : ℕ) → Reads t B k s.blocks c e z b (gives q) → Tells M D l (meaning t M s l U) (hand_out (gives q) s (reached z (0 + c + e) b (gives q)) l)
    tells_record q r =
        let F = I.fit in
        let m = reads_record t T B r q refl in
        let y = reads_to t T B r k_b in
        let w = long in
        let zq = m.0 in
        let pos = m.3 in
        let none = m.2 in
        let qB : q ≤ length B = omega (arith, y.1) in
        let q0 : 0 < q = omega (arith, y.0) in
        let z0 : s.start + 0 ≡ s.start = omega arith in
        let z1 : s.start + q - (s.start + q) ≡ 0 = omega arith in
        let u = state_at s (s.offset + q) (s.start + q) (s.start + q) b in
        let i : Inv n u l = record {
          size = I.size;
          fit = record { len = F.len; low = F.low; high = F.high; order = omega arith; passed = omega arith; within = F.within; sum = omega arith; depth = rw m.1 (good_none 0).top };
          good = rw m.1 (good_none (s.start + q - (s.start + q)));
          blank = λ _. m.1;
        } in
        let g : Gone n s l u = record { moved = record { inv = i; sum = omega arith; closed = refl; held = omega arith }; less = omega arith } in
        let first : get_or l s.start 0 ≡ get_or (B ++ U) 0 0 =
        ap (λ (j : ℕ). get_or l j 0) (sym z0) ∙ sym (slice_at l s.start s.filled 0 (omega arith)) ∙ sym (get_or-append B U 0 0 (omega arith)) in
        let bytes : record_of l s.start q ≡ take q (B ++ U) = record_take l s.start s.filled q (omega arith) (omega (arith, I.size)) ∙ sym (take-append-le q B U qB) in
        let rest : slice (s.start + q) s.filled l ++ U ≡ drop q (B ++ U) = ap (λ (x : List ℕ). x ++ U) (sym (drop-drop q s.start (take s.filled l))) ∙ sym (drop-append-le q B U qB) in
        let same : meaning t M u l U ≡ on q =
        means_none t T M b (s.start + q - (s.start + q)) (s.offset + q) (slice (s.start + q) s.filled l ++ U) z1
        ∙ ap (λ (x : List ℕ). whole_in t M x (s.offset + q)) rest
        ∙ sym (behind_some M.end (one_by t M) (B ++ U) s.offset q q0) in
        record {
          it =
              subst (M.Says (heard (hearing (hand_out (gives q) s (reached z (0 + c + e) b (gives q)) l) l) (D true u)))
              (sym (means_done t T M B U s.blocks k s.offset k_b n_b I.blank ready r (omega arith) (λ v. let x : ◌≡◌ {A = ℕ} 0 1 = cc in omega arith)))
              (M.says_record _ (D true u) s.start q s.offset c (B ++ U) on (ap (λ (x : ℕ). gives (handed s.start q s.offset (mark_of x))) first) bytes (omega arith) refl
              (subst (M.Says (D true u)) same (again u g)));
        }

    -- a refusal
    tells_refused : (m : ℕ) (vs : List ℕ) → Reads t B k s.blocks c e z b (refused m vs) → Tells M D l (meaning t M s l U) (hand_out (refused m vs) s (reached z (0 + c + e) b (refused m vs)) l)
    tells_refused m vs r =
        let un-record : (q : ℕ) → ◌≡◌ {A = Paper ℕ} (refused m vs) (gives q) → ⊥ = λ q v. let x : ◌≡◌ {A = ℕ} 0 1 = cc in omega arith in
        let un : ◌≡◌ {A = Paper ℕ} (refused m vs) more → ⊥ = λ v. let x : ◌≡◌ {A = ℕ} 0 1 = cc in omega arith in
        let some = reads_some t T B r un in
        let F = I.fit in
        record {
          it =
              subst (M.Says (heard (hearing (hand_out (refused m vs) s (reached z (0 + c + e) b (refused m vs)) l) l) stopped))
              (sym (means_done t T M B U s.blocks k s.offset k_b n_b I.blank ready r (omega arith) un))
              (M.says_refused _ c s.offset m vs (B ++ U) on refl (reads_counted t T B r un-record s.start s.filled long (omega arith)));
        }

    -- neither: the first that holds
    module _ (r : Reads t B k s.blocks c e z b more) where
      abbrev kept : State
      kept = state_at s s.offset s.start (s.start + z) b

      abbrev readings : ℕ
      readings = 0 + c + e

      sum : readings ≡ c + pick (ltb (s.start + z) s.filled) 1 0
      sum = let F = I.fit in reads_counted t T B r (λ q v. let x : ◌≡◌ {A = ℕ} 0 1 = cc in omega arith) s.start s.filled long (omega arith)

      tells_long : s.len ≤ held_of s → Tells M D l (meaning t M s l U) (looked (refused record_too_long (s.offset ∷ s.len ∷ [])) readings kept)
      tells_long h =
          let v = long in
          let F = I.fit in
          let z0 : n - length B ≡ 0 = omega arith in
          record {
            it =
                subst (M.Says _)
                (sym (means_last t T M B U s.blocks k s.offset k_b n_b I.blank ready r (omega arith) (ap (λ (j : ℕ). take j U) z0)))
                (M.says_long _ c s.offset (B ++ U) on (omega (arith, length-append B U)) (ap (λ (j : ℕ). refused record_too_long (s.offset ∷ j ∷ [])) F.len) sum);
          }

      tells_cut : held_of s < s.len → s.closed ≡ true → (held_of s ≡ 0 → ⊥) → Tells M D l (meaning t M s l U) (looked (refused cut_short (s.offset ∷ held_of s ∷ [])) readings kept)
      tells_cut h f g =
          let v = long in
          let F = I.fit in
          let u = shut f in
          let m : length (B ++ U) ≡ held_of s = ap (λ (x : List ℕ). length (B ++ x)) u ∙ ap length (append-nil B) ∙ v in
          record {
            it =
                subst (M.Says _)
                (sym (means_last t T M B U s.blocks k s.offset k_b n_b I.blank ready r (omega arith) (ap (take (n - length B)) u ∙ take-nil (n - length B))))
                (M.says_cut _ c s.offset (B ++ U) on (omega arith) (ap (λ (j : ℕ). refused cut_short (s.offset ∷ j ∷ [])) (sym m)) sum);
          }

      tells_end : s.closed ≡ true → held_of s ≡ 0 → Tells M D l (meaning t M s l U) (looked (gives ended) readings kept)
      tells_end f g =
          let v = long in
          let F = I.fit in
          let y = reads_to t T B r k_b in
          let c0 : c ≡ 0 = omega (arith, y.0, y.1) in
          let m : length (B ++ U) ≡ held_of s = ap (λ (x : List ℕ). length (B ++ x)) (shut f) ∙ ap length (append-nil B) ∙ v in
          record {
            it =
                subst (M.Says _)
                (sym (means_end t T M s.blocks k s.offset (B ++ U) (omega arith) (omega arith)))
                (M.says_end _ refl (omega (arith, sum)));
          }

      tells_more : held_of s < s.len → s.closed ≡ false → Tells M D l (meaning t M s l U) (looked more readings kept)
      tells_more h f =
          let v = long in
          let F = I.fit in
          let y = reads_to t T B r k_b in
          let zz : s.start + z - s.start ≡ z = omega arith in
          let G : Good b z = reads_good t T B r I.good in
          let i : Inv n kept l = record {
            size = I.size;
            fit = record { len = F.len; low = F.low; high = F.high; order = omega arith; passed = omega (arith, y.1); within = F.within; sum = F.sum; depth = G.top };
            good = rw zz G;
            blank = λ g. reads_still t T B r (omega (arith, y.0)) ∙ I.blank (omega (arith, y.0));
          } in
          let w : Waits n s l kept = record { moved = record { inv = i; sum = refl; closed = refl; held = omega arith }; room = omega arith; unshut = f } in
          record {
            it =
                subst (M.Says _)
                (sym (means_more t T M B U s.blocks k s.offset k_b n_b I.blank ready r refl ∙ ap (λ (j : ℕ). M.add c (means t M b j s.offset (B ++ U))) (sym zz)))
                (M.says_more _ (D false kept) c (meaning t M kept l U) refl sum (wait kept w));
          }

      tells_wait : Tells M D l (meaning t M s l U) (wait_of kept readings)
      tells_wait =
          pick_case (Tells M D l (meaning t M s l U)) (leb s.len (held_of s)) _ _ (λ e1. tells_long (leb-true _ _ e1))
          λ e1. pick_case (Tells M D l (meaning t M s l U)) s.closed _ _
          (λ e2. pick_case (Tells M D l (meaning t M s l U)) (eqb (held_of s) 0) _ _ (λ e3. tells_end e2 (eqb-true _ _ e3)) (λ e3. tells_cut (leb-false _ _ e1) e2 (eqb-false _ _ e3)))
          (λ e2. tells_more (leb-false _ _ e1) e2)

    tells_by : (w : Paper ℕ) → Reads t B k s.blocks c e z b w → Tells M D l (meaning t M s l U) (hand_out w s (reached z (0 + c + e) b w) l)
    tells_by (gives q) r = tells_record q r
    tells_by (refused m vs) r = tells_refused m vs r
    tells_by more r = tells_wait r

  -- ---- the separators before it

  skip_means : (s : State) (l U : List ℕ) → meaning t M (skipped_of s l) l U ≡ meaning t M s l U
  unfolding skipped_of
  skip_means s l U = by (eqb s.place s.start) refl
    where
      by : (q : Bool) → eqb s.place s.start ≡ q → meaning t M (skipped_of s l) l U ≡ meaning t M s l U
      by false e = rw e refl
      by true e =
          let z : s.place ≡ s.start = eqb-true _ _ e in
          let j = separators (buffered_of s l) in
          rw e (means_none t T M s.blocks (s.start + j - (s.start + j)) (s.offset + j) (slice (s.start + j) s.filled l ++ U) (omega arith)
          ∙ ap (λ (x : List ℕ). whole_in t M (x ++ U) (s.offset + j)) (sym (drop-drop j s.start (take s.filled l)))
          ∙ sym (skips M.end (one_by t M) (buffered_of s l) U s.offset)
          ∙ sym (means_none t T M s.blocks (s.place - s.start) s.offset (buffered_of s l ++ U) (omega arith)))

  -- one call of next, and what follows it
  pub next_tells : (s : State) (l U : List ℕ) → Inv n s l → (s.closed ≡ true → U ≡ []) → (D : Bool → State → Trace)
      → ((u : State) → Gone n s l u → M.Says (D true u) (meaning t M u l U)) → ((u : State) → Waits n s l u → M.Says (D false u) (meaning t M u l U))
      → Tells M D l (meaning t M s l U) (next_by t s l)
  next_tells s l U I shut D again wait =
      let S = skip_moved n s l I in
      let v = skipped_of s l in
      let r = read t T (buffered_of v l) (v.place - v.start) v.blocks in
      let x = tells_by v l U S.inv (skip_ready n s l I) (λ h. shut (sym S.closed ∙ h)) D
      (λ u g. again u (record { moved = moved_then n s v u l S g.moved; less = omega (arith, S.held, g.less) }))
      (λ u g. wait u (record { moved = moved_then n s v u l S g.moved; room = g.room; unshut = sym S.closed ∙ g.unshut }))
      r.count r.extra r.place r.blocks r.answer r.it in
      subst (λ (y : Looked). Tells M D l (meaning t M s l U) y)
      (sym (next_looks t s l (inv_fits n s l I) ∙ ap (λ (y : Reached). hand_out y.answer v y l) (on_is t T (buffered_of v l) r.it 0)))
      (subst (λ (y : X). Tells M D l y (hand_out r.answer v (reached r.place (0 + r.count + r.extra) r.blocks r.answer) l)) (skip_means s l U) x)
