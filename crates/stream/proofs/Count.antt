-- The readings of one call of next. Assumes nothing.
use mathlib.Core.Path.{◌≡◌, refl, sym, ap, subst, ◌∙◌}
use mathlib.Core.Bool.{true}
use mathlib.Core.List.{List}
use Prim.Native.Nat.{ℕ, suc, ◌+◌, ◌-◌, ◌≤◌, ◌<◌}
use native.Mathlib.Omega.{arith}
use lib.Dec.{eqb, leb}
use lib.ListN.{length}
use lib.Seq.{length-slice}
use Rattle.refusal.specs.Paper.{Paper, gives, more, refused, pick, spot}
use Rattle.token.specs.declared.Kind.{Kind}
use Rattle.kept.specs.declared.Blocks.{Blocks}
use Rattle.automaton.specs.Step.{Block, Due, go, finished}
use Rattle.kept.specs.Kept.{blocks_then}
use Rattle.blocks.specs.Readings.{Reached, reached, Reader, binary}
use Rattle.reader.specs.declared.State.{State}
use Rattle.reader.specs.Fits.{held_of, fits, Fitting}
use Rattle.reader.specs.Meaning.{Handed, handed, looked}
use Rattle.reader.specs.Calls.{skipped_of, state_at, buffered_of, hand_out, next_by}
use Rattle.blocks.proofs.Firsts.{pick_case}
use Rattle.reader.proofs.Shell.{fitting, skipped_fits, next_looks}
use Rattle.stream.specs.Interface.{TokenReader}
use Rattle.stream.specs.Tokens.{Between, nothing, one_passed, record_ended}
use Rattle.stream.specs.Drive.{left_of}
use Rattle.stream.specs.Steps.{Counts}
use Rattle.stream.proofs.Binary.{binary_reader}
use Rattle.stream.proofs.Turns.{step_in, Reads, at_end, unfinished, bad, misplaced, too_many, ends, passes, read, on_is, tokens_are, reads_record, reads_counted}

-- the tokens that readings pass stand between their places
reads_between : {t : Reader} {s : List ℕ} {p c e z : ℕ} {b b' : Blocks} {w : Paper ℕ} → Reads t s p b c e z b' w → Between t s c p b z b'
reads_between (at_end l) = nothing
reads_between (unfinished l g) = nothing
reads_between (bad l g) = nothing
reads_between (misplaced l g e) = nothing
reads_between (too_many l g e) = nothing
reads_between (ends l g e) = record_ended g e
reads_between (passes l g e r) = one_passed g e (reads_between r)

module _ (t : Reader) (T : TokenReader t) where
  -- each takes a byte at least
  between_grows : {s : List ℕ} {c p z : ℕ} {b b' : Blocks} → Between t s c p b z b' → c + p ≤ z
  between_grows nothing = omega arith
  between_grows {s} {p = p} (one_passed {a = a} {q = q} {x = x} g e r) = omega (arith, (T.grows s p x a q g).0, between_grows r)
  between_grows {s} {p = p} (record_ended {a = a} {q = q} {x = x} g e) = omega (arith, (T.grows s p x a q g).0)

  -- the steps from a place to another behind it, one by one
  record Rest (s : List ℕ) (c q : ℕ) (b : Blocks) (z : ℕ) (b' : Blocks) : Type 0 where
    count : ℕ
    one : c ≡ suc count
    it : Between t s count q b z b'

  rest : {s : List ℕ} {c p z a q : ℕ} {b b' : Blocks} {x : Kind} {K : List Block} {d : Due} → Between t s c p b z b' → p < z → t s p ≡ gives (spot x a q) → step_in b x ≡ go K d
      → Rest s c q (blocks_then b K d) z b'
  rest nothing h g e = absurd (omega arith)
  rest {s} {z = z} {q = q} {b = b} {b' = b'} {x = x} {K = K} {d = d} (one_passed {c = c} {q = q'} {x = x'} {K = K'} {d = d'} g' e' r) h g e =
      let i : q' ≡ q = cc in
      let j : x' ≡ x = cc in
      let m : go K' d' ≡ go K d = sym e' ∙ ap (step_in b) j ∙ e in
      let n : K' ≡ K = cc in
      let o : d' ≡ d = cc in
      record { count = c; one = refl; it = subst (λ (y : ℕ). Between t s c y (blocks_then b K d) z b') i (subst (λ (y : Due). Between t s c q' (blocks_then b K y) z b') o (subst (λ (y : List Block). Between t s c q' (blocks_then b y d') z b') n r)) }
  rest {b = b} {x = x} {K = K} {d = d} (record_ended {x = x'} g' e') h g e =
      let j : x' ≡ x = cc in
      let m : finished ≡ go K d = sym e' ∙ ap (step_in b) j ∙ e in
      let y : ◌≡◌ {A = ℕ} 0 1 = cc in
      absurd (omega arith)

  -- between two places there is one number of them
  pub between_one : {s : List ℕ} {c d p z : ℕ} {b b' b'' : Blocks} → Between t s c p b z b' → Between t s d p b z b'' → c ≡ d
  between_one nothing r' = omega (arith, between_grows r')
  between_one {s} {p = p} (one_passed {a = a} {q = q} {x = x} g e r) r' =
      let y = rest r' (omega (arith, (T.grows s p x a q g).0, between_grows r)) g e in
      ap suc (between_one r y.it) ∙ sym y.one
  between_one {s} {d = d} {p = p} {b = b} (record_ended {a = a} {q = q} {x = x} g e) r' = ends_one r' (T.grows s p x a q g).0 g e
    where
      ends_one : {s : List ℕ} {d p z a q : ℕ} {b b' : Blocks} {x : Kind} → Between t s d p b z b' → p < z → t s p ≡ gives (spot x a q) → step_in b x ≡ finished → 1 ≡ d
      ends_one nothing h g e = absurd (omega arith)
      ends_one {b = b} {x = x} (one_passed {x = x'} {K = K} {d = d} g' e' r) h g e =
          let j : x' ≡ x = cc in
          let m : go K d ≡ finished = sym e' ∙ ap (step_in b) j ∙ e in
          let y : ◌≡◌ {A = ℕ} 0 1 = cc in
          absurd (omega arith)
      ends_one (record_ended g' e') h g e = refl

  module _ (s : State) (l : List ℕ) (F : Fitting s (length l)) (c e z : ℕ) (b : Blocks) where
    abbrev B : List ℕ
    B = buffered_of s l

    abbrev k : ℕ
    k = s.place - s.start

    long : length B ≡ s.filled - s.start
    long = length-slice s.start s.filled l F.within

    module _ (w : Paper ℕ) (r : Reads t B k s.blocks c e z b w) where
      -- the place at exit is `start + z`
      steps : (a : Paper Handed) (u : State) → u.place ≡ s.start + z → u.blocks ≡ b → 0 + c + e ≡ c + pick (left_of a u) 1 0 → Counts t s l (looked a (0 + c + e) u)
      steps a u p q n =
          let m = tokens_are t T B r in
          let y : u.place - s.start ≡ z = omega arith in
          record {
            between = rw (m, y, q) (reads_between r);
            counted = n ∙ ap (λ (i : ℕ). i + pick (left_of a u) 1 0) (sym m);
          }

    counts_by : (w : Paper ℕ) → Reads t B k s.blocks c e z b w → Counts t s l (hand_out w s (reached z (0 + c + e) b w) l)
    counts_by (gives q) r =
        let m = reads_record t T B r q refl in
        let z0 = m.0 in
        let e0 = m.2 in
        steps (gives q) r (gives (handed s.start q s.offset _)) (state_at s (s.offset + q) (s.start + q) (s.start + q) b) (ap (λ (i : ℕ). s.start + i) z0) refl (omega arith)
    counts_by (refused m vs) r = steps (refused m vs) r _ (state_at s s.offset s.start (s.start + z) b) refl refl (reads_counted t T B r (λ q v. let x : ◌≡◌ {A = ℕ} 0 1 = cc in omega arith) s.start s.filled long (omega arith))
    counts_by more r =
        let n = reads_counted t T B r (λ q v. let x : ◌≡◌ {A = ℕ} 0 1 = cc in omega arith) s.start s.filled long (omega arith) in
        let u = state_at s s.offset s.start (s.start + z) b in
        pick_case (Counts t s l) (leb s.len (held_of s)) _ _ (λ _. steps more r _ u refl refl n)
        λ _. pick_case (Counts t s l) s.closed _ _
        (λ _. pick_case (Counts t s l) (eqb (held_of s) 0) _ _ (λ _. steps more r _ u refl refl n) (λ _. steps more r _ u refl refl n))
        (λ _. steps more r _ u refl refl n)

  -- the readings of any next that is not refused 28
  pub reading_steps_by : (s : State) (l : List ℕ) → fits s (length l) ≡ true → Counts t (skipped_of s l) l (next_by t s l)
  reading_steps_by s l h =
      let v = skipped_of s l in
      let F = skipped_fits s l (fitting s (length l) h) in
      let r = read t T (buffered_of v l) (v.place - v.start) v.blocks in
      subst (Counts t v l)
      (sym (next_looks t s l h ∙ ap (λ (y : Reached). hand_out y.answer v y l) (on_is t T (buffered_of v l) r.it 0)))
      (counts_by v l F r.count r.extra r.place r.blocks r.answer r.it)

-- in binary
pub reading_steps : (s : State) (l : List ℕ) → fits s (length l) ≡ true → Counts binary (skipped_of s l) l (next_by binary s l)
reading_steps = reading_steps_by binary binary_reader
