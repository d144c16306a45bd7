-- The readings from a place on as a derivation, one case for each way a reading goes, and what holds of each. Assumes nothing.
use mathlib.Core.Path.{◌≡◌, refl, sym, ap, subst, ◌∙◌}
use mathlib.Core.Logic.{⊎_elim}
use mathlib.Core.Bool.{Bool}
use mathlib.Core.List.{List, [], ◌∷◌, ◌++◌}
use Prim.Native.Nat.{ℕ, zero, suc, ◌+◌, ◌-◌, ◌≤◌, ◌<◌}
use native.Mathlib.Omega.{arith}
use lib.Dec.{ltb}
use lib.ListN.{length, length-append}
use borrow.Author.Tests.{lt-ltb, le-ltb}
use Rattle.refusal.specs.Numbers.{too_deep}
use Rattle.refusal.specs.Paper.{Paper, gives, more, refused, Spot, spot, pick}
use Rattle.refusal.proofs.Cases.{either}
use Rattle.token.specs.declared.Kind.{Kind}
use Rattle.automaton.specs.Step.{Block, Due, Step, go, finished, wrong, deep, step}
use Rattle.kept.specs.declared.Blocks.{Blocks}
use Rattle.kept.specs.Kept.{due_of, blocks_of, blocks_then, no_blocks}
use Rattle.blocks.specs.Readings.{reached, Reader, on_step, on_token, read_on}
use Rattle.blocks.proofs.Laws.{read_end, read_turn}
use Rattle.stream.specs.Interface.{TokenReader}
use Rattle.stream.specs.Tokens.{step_passes, token_passes, tokens_for, tokens_by}
use Rattle.stream.proofs.Open.{Good, good_none, then_good}

-- what a token does with the blocks b open
abbrev pub step_in : Blocks → Kind → Step
step_in b x = step (due_of b.due) (blocks_of b) x

-- from a place and the blocks open there c tokens are passed and e readings made that pass none, to a place, the blocks there and an answer
pub data Reads (t : Reader) (s : List ℕ) : ℕ → Blocks → ℕ → ℕ → ℕ → Blocks → Paper ℕ → Type 0 where
  -- no reading is made at the end of the bytes
  at_end : {p : ℕ} {b : Blocks} → length s ≤ p → Reads t s p b 0 0 p b more
  -- a token is unfinished
  unfinished : {p : ℕ} {b : Blocks} → p < length s → t s p ≡ more → Reads t s p b 0 1 p b more
  -- it is refused
  bad : {p m : ℕ} {vs : List ℕ} {b : Blocks} → p < length s → t s p ≡ refused m vs → Reads t s p b 0 1 p b (refused m vs)
  -- it is wrong for its place
  misplaced : {p a q m : ℕ} {x : Kind} {b : Blocks} → p < length s → t s p ≡ gives (spot x a q) → step_in b x ≡ wrong m → Reads t s p b 0 1 p b (refused m (q ∷ []))
  -- it would open a block too many
  too_many : {p a q : ℕ} {x : Kind} {b : Blocks} → p < length s → t s p ≡ gives (spot x a q) → step_in b x ≡ deep → Reads t s p b 0 1 p b (refused too_deep (a ∷ []))
  -- it ends the record
  ends : {p a q : ℕ} {x : Kind} {b : Blocks} → p < length s → t s p ≡ gives (spot x a q) → step_in b x ≡ finished → Reads t s p b 1 0 q no_blocks (gives q)
  -- it is passed, and the readings go on behind it
  passes : {p a q c e z : ℕ} {x : Kind} {K : List Block} {d : Due} {b b' : Blocks} {w : Paper ℕ} → p < length s → t s p ≡ gives (spot x a q) → step_in b x ≡ go K d
      → Reads t s q (blocks_then b K d) c e z b' w → Reads t s p b (suc c) e z b' w

-- some readings
pub record Read (t : Reader) (s : List ℕ) (p : ℕ) (b : Blocks) : Type 0 where
  pub count : ℕ
  pub extra : ℕ
  pub place : ℕ
  pub blocks : Blocks
  pub answer : Paper ℕ
  pub it : Reads t s p b count extra place blocks answer

count : (m n : ℕ) → m ≡ n → (p : ℕ) (b : Blocks) (w : Paper ℕ) → reached p m b w ≡ reached p n b w
count m n e p b w = ap (λ (i : ℕ). reached p i b w) e

ltb_shift : (a b c d : ℕ) → (a < b → c < d) → (b ≤ a → d ≤ c) → ltb a b ≡ ltb c d
ltb_shift a b c d f g = ⊎_elim (λ h. le-ltb a b h ∙ sym (le-ltb c d (g h))) (λ h. lt-ltb a b h ∙ sym (lt-ltb c d (f h))) (either b a)

recount : {t : Reader} {s : List ℕ} {p c d e z : ℕ} {b b' : Blocks} {w : Paper ℕ} → c ≡ d → Reads t s p b c e z b' w → Reads t s p b d e z b' w
recount {t} {s} {p} {e = e} {z = z} {b = b} {b' = b'} {w = w} h r = subst (λ (i : ℕ). Reads t s p b i e z b' w) h r

module _ (t : Reader) (T : TokenReader t) (s : List ℕ) where
  -- ---- there are some

  module _ (p : ℕ) (b : Blocks) (l : p < length s) (on : (q : ℕ) → p < q → (b : Blocks) → Read t s q b) where
    by_step : (x : Kind) (a q : ℕ) → t s p ≡ gives (spot x a q) → (y : Step) → step_in b x ≡ y → Read t s p b
    by_step x a q g (go K d) e =
        let r = on q (T.grows s p x a q g).0 (blocks_then b K d) in
        record { count = suc r.count; extra = r.extra; place = r.place; blocks = r.blocks; answer = r.answer; it = passes l g e r.it }
    by_step x a q g finished e = record { count = 1; extra = 0; place = q; blocks = no_blocks; answer = gives q; it = ends l g e }
    by_step x a q g (wrong m) e = record { count = 0; extra = 1; place = p; blocks = b; answer = refused m (q ∷ []); it = misplaced l g e }
    by_step x a q g deep e = record { count = 0; extra = 1; place = p; blocks = b; answer = refused too_deep (a ∷ []); it = too_many l g e }

    by_read : (r : Paper (Spot Kind)) → t s p ≡ r → Read t s p b
    by_read (gives (spot x a q)) g = by_step x a q g (step_in b x) refl
    by_read more g = record { count = 0; extra = 1; place = p; blocks = b; answer = more; it = unfinished l g }
    by_read (refused m vs) g = record { count = 0; extra = 1; place = p; blocks = b; answer = refused m vs; it = bad l g }

  read_end_here : (p : ℕ) (b : Blocks) → length s ≤ p → Read t s p b
  read_end_here p b l = record { count = 0; extra = 0; place = p; blocks = b; answer = more; it = at_end l }

  read_some : (f p : ℕ) (b : Blocks) → length s < f + p → Read t s p b
  read_some zero p b h = read_end_here p b (omega arith)
  read_some (suc f) p b h = ⊎_elim (λ l. read_end_here p b l) (λ l. by_read p b l (λ q k c. read_some f q c (omega arith)) (t s p) refl) (either (length s) p)

  pub read : (p : ℕ) (b : Blocks) → Read t s p b
  read p b = read_some (suc (length s)) p b (omega arith)

  -- ---- and they are those of the definitions

  pub on_is : {p c e z : ℕ} {b b' : Blocks} {w : Paper ℕ} → Reads t s p b c e z b' w → (n : ℕ) → read_on t s p b n ≡ reached z (n + c + e) b' w
  unfolding on_token on_step
  on_is {p} {b = b} (at_end l) n = read_end t T.grows s p b n l ∙ count n (n + 0 + 0) (omega arith) p b more
  on_is {p} {b = b} (unfinished l g) n = read_turn t T.grows s p b n l ∙ rw g (count (n + 1) (n + 0 + 1) (omega arith) p b more)
  on_is {p} {b = b} {w = w} (bad l g) n = read_turn t T.grows s p b n l ∙ rw g (count (n + 1) (n + 0 + 1) (omega arith) p b w)
  on_is {p} {b = b} {w = w} (misplaced l g e) n = read_turn t T.grows s p b n l ∙ rw g (rw e (count (n + 1) (n + 0 + 1) (omega arith) p b w))
  on_is {p} {b = b} {w = w} (too_many l g e) n = read_turn t T.grows s p b n l ∙ rw g (rw e (count (n + 1) (n + 0 + 1) (omega arith) p b w))
  on_is {p} {b = b} {w = w} (ends {q = q} l g e) n = read_turn t T.grows s p b n l ∙ rw g (rw e (count (n + 1) (n + 1 + 0) (omega arith) q no_blocks w))
  on_is {p} {z = z} {b = b} {b' = b'} {w = w} (passes {c = c} {e = i} l g e r) n = read_turn t T.grows s p b n l ∙ rw g (rw e (on_is r (n + 1) ∙ count (n + 1 + c + i) (n + suc c + i) (omega arith) z b' w))

  tokens_for_lem : {p c e z : ℕ} {b b' : Blocks} {w : Paper ℕ} → Reads t s p b c e z b' w → (f : ℕ) → length s < f + p → tokens_for t s f p b ≡ c
  unfolding tokens_for token_passes step_passes
  tokens_for_lem (at_end l) zero h = refl
  tokens_for_lem {p} (at_end l) (suc f) h = rw (le-ltb p (length s) l) refl
  tokens_for_lem (unfinished l g) zero h = absurd (omega arith)
  tokens_for_lem {p} (unfinished l g) (suc f) h = rw (lt-ltb p (length s) l, g) refl
  tokens_for_lem (bad l g) zero h = absurd (omega arith)
  tokens_for_lem {p} (bad l g) (suc f) h = rw (lt-ltb p (length s) l, g) refl
  tokens_for_lem (misplaced l g e) zero h = absurd (omega arith)
  tokens_for_lem {p} (misplaced l g e) (suc f) h = rw (lt-ltb p (length s) l, g) (rw e refl)
  tokens_for_lem (too_many l g e) zero h = absurd (omega arith)
  tokens_for_lem {p} (too_many l g e) (suc f) h = rw (lt-ltb p (length s) l, g) (rw e refl)
  tokens_for_lem (ends l g e) zero h = absurd (omega arith)
  tokens_for_lem {p} (ends l g e) (suc f) h = rw (lt-ltb p (length s) l, g) (rw e refl)
  tokens_for_lem (passes l g e r) zero h = absurd (omega arith)
  tokens_for_lem {p} (passes {a = a} {q = q} {x = x} l g e r) (suc f) h =
      rw (lt-ltb p (length s) l, g) (rw e (ap suc (tokens_for_lem r f (omega (arith, (T.grows s p x a q g).0)))))

  pub tokens_are : {p c e z : ℕ} {b b' : Blocks} {w : Paper ℕ} → Reads t s p b c e z b' w → tokens_by t s p b ≡ c
  unfolding tokens_by
  tokens_are r = tokens_for_lem r (suc (length s)) (omega arith)

  -- ---- what holds of them

  -- they end within the bytes
  pub reads_to : {p c e z : ℕ} {b b' : Blocks} {w : Paper ℕ} → Reads t s p b c e z b' w → p ≤ length s → (c + p ≤ z) × (z ≤ length s)
  reads_to (at_end l) h = (omega arith, h)
  reads_to (unfinished l g) h = (omega arith, h)
  reads_to (bad l g) h = (omega arith, h)
  reads_to (misplaced l g e) h = (omega arith, h)
  reads_to (too_many l g e) h = (omega arith, h)
  reads_to {p} (ends {a = a} {q = q} {x = x} l g e) h = let y = T.grows s p x a q g in (omega (arith, y.0), y.1)
  reads_to {p} (passes {a = a} {q = q} {x = x} l g e r) h = let y = T.grows s p x a q g in let i = reads_to r y.1 in (omega (arith, y.0, i.0), i.1)

  -- unless more is wanted there is a byte to read
  pub reads_some : {p c e z : ℕ} {b b' : Blocks} {w : Paper ℕ} → Reads t s p b c e z b' w → (w ≡ more → ⊥) → p < length s
  reads_some (at_end l) h = absurd (h refl)
  reads_some (unfinished l g) h = l
  reads_some (bad l g) h = l
  reads_some (misplaced l g e) h = l
  reads_some (too_many l g e) h = l
  reads_some (ends l g e) h = l
  reads_some (passes l g e r) h = l

  -- a record ends where they do, and no block is open there
  pub reads_record : {p c e z : ℕ} {b b' : Blocks} {w : Paper ℕ} → Reads t s p b c e z b' w → (q : ℕ) → w ≡ gives q → (q ≡ z) × (b' ≡ no_blocks) × (e ≡ 0) × (0 < c)
  reads_record (at_end l) q u = let y : ◌≡◌ {A = ℕ} 0 1 = cc in absurd (omega arith)
  reads_record (unfinished l g) q u = let y : ◌≡◌ {A = ℕ} 0 1 = cc in absurd (omega arith)
  reads_record (bad l g) q u = let y : ◌≡◌ {A = ℕ} 0 1 = cc in absurd (omega arith)
  reads_record (misplaced l g e) q u = let y : ◌≡◌ {A = ℕ} 0 1 = cc in absurd (omega arith)
  reads_record (too_many l g e) q u = let y : ◌≡◌ {A = ℕ} 0 1 = cc in absurd (omega arith)
  reads_record {z = z} (ends l g e) q u = let y : z ≡ q = cc in (sym y, refl, refl, omega arith)
  reads_record (passes l g e r) q u = let i = reads_record r q u in (i.0, i.1, i.2, omega arith)

  -- where there is none, one reading more is made than tokens are passed if a byte is left, and none if none is
  pub reads_left : {p c e z : ℕ} {b b' : Blocks} {w : Paper ℕ} → Reads t s p b c e z b' w → ((q : ℕ) → w ≡ gives q → ⊥) → e ≡ pick (ltb z (length s)) 1 0
  reads_left {z = z} (at_end l) u = rw (le-ltb z (length s) l) refl
  reads_left {z = z} (unfinished l g) u = rw (lt-ltb z (length s) l) refl
  reads_left {z = z} (bad l g) u = rw (lt-ltb z (length s) l) refl
  reads_left {z = z} (misplaced l g e) u = rw (lt-ltb z (length s) l) refl
  reads_left {z = z} (too_many l g e) u = rw (lt-ltb z (length s) l) refl
  reads_left (ends {q = q} l g e) u = absurd (u q refl)
  reads_left (passes l g e r) u = reads_left r u

  -- the same by the places of a buffer in which the bytes stand
  pub reads_counted : {p c e z : ℕ} {b b' : Blocks} {w : Paper ℕ} → Reads t s p b c e z b' w → ((q : ℕ) → w ≡ gives q → ⊥) → (start filled : ℕ) → length s ≡ filled - start → start ≤ filled
      → 0 + c + e ≡ c + pick (ltb (start + z) filled) 1 0
  reads_counted {c = c} {e = e} {z = z} r u start filled h g =
      let x : ltb z (length s) ≡ ltb (start + z) filled = ltb_shift z (length s) (start + z) filled (λ l. omega arith) (λ l. omega arith) in
      let y : ◌≡◌ {A = ℕ} (pick (ltb z (length s)) 1 0) (pick (ltb (start + z) filled) 1 0) = ap (λ (q : Bool). pick q 1 0) x in
      omega (arith, reads_left r u)

  -- the open blocks stay good
  pub reads_good : {p c e z : ℕ} {b b' : Blocks} {w : Paper ℕ} → Reads t s p b c e z b' w → Good b p → Good b' z
  reads_good (at_end l) G = G
  reads_good (unfinished l g) G = G
  reads_good (bad l g) G = G
  reads_good (misplaced l g e) G = G
  reads_good (too_many l g e) G = G
  reads_good {z = z} (ends l g e) G = good_none z
  reads_good {p} {b = b} (passes {a = a} {q = q} {x = x} {K = K} {d = d} l g e r) G = reads_good r (then_good b p G x K d e q (T.grows s p x a q g).0)

  -- where no token is passed they are the same
  pub reads_still : {p c e z : ℕ} {b b' : Blocks} {w : Paper ℕ} → Reads t s p b c e z b' w → c ≡ 0 → b' ≡ b
  reads_still (at_end l) u = refl
  reads_still (unfinished l g) u = refl
  reads_still (bad l g) u = refl
  reads_still (misplaced l g e) u = refl
  reads_still (too_many l g e) u = refl
  reads_still (ends l g e) u = absurd (omega arith)
  reads_still (passes l g e r) u = absurd (omega arith)

  -- ---- bytes behind

  module _ (u : List ℕ) where
    -- a token that is whole or refused stays
    token_stays : {p : ℕ} {r : Paper (Spot Kind)} → p < length s → t s p ≡ r → (r ≡ more → ⊥) → t (s ++ u) p ≡ r
    token_stays {p} l g n = T.settled s u p (omega arith) (λ e. n (sym g ∙ e)) ∙ g

    longer : {p : ℕ} → p < length s → p < length (s ++ u)
    longer l = omega (arith, length-append s u)

    -- readings that came to an answer stay as they are
    pub reads_done : {p c e z : ℕ} {b b' : Blocks} {w : Paper ℕ} → Reads t s p b c e z b' w → (w ≡ more → ⊥) → Reads t (s ++ u) p b c e z b' w
    reads_done (at_end l) n = absurd (n refl)
    reads_done (unfinished l g) n = absurd (n refl)
    reads_done (bad l g) n = bad (longer l) (token_stays l g (λ v. let y : ◌≡◌ {A = ℕ} 0 1 = cc in omega arith))
    reads_done (misplaced l g e) n = misplaced (longer l) (token_stays l g (λ v. let y : ◌≡◌ {A = ℕ} 0 1 = cc in omega arith)) e
    reads_done (too_many l g e) n = too_many (longer l) (token_stays l g (λ v. let y : ◌≡◌ {A = ℕ} 0 1 = cc in omega arith)) e
    reads_done (ends l g e) n = ends (longer l) (token_stays l g (λ v. let y : ◌≡◌ {A = ℕ} 0 1 = cc in omega arith)) e
    reads_done (passes l g e r) n = passes (longer l) (token_stays l g (λ v. let y : ◌≡◌ {A = ℕ} 0 1 = cc in omega arith)) e (reads_done r n)

    -- readings that want more go on, over more bytes, from where they stopped
    pub reads_on : {p c e z c' e' z' : ℕ} {b b' b'' : Blocks} {w w' : Paper ℕ} → Reads t s p b c e z b' w → w ≡ more → Reads t (s ++ u) z b' c' e' z' b'' w' → Reads t (s ++ u) p b (c + c') e' z' b'' w'
    reads_on {c' = c'} (at_end l) n r' = recount (omega arith) r'
    reads_on {c' = c'} (unfinished l g) n r' = recount (omega arith) r'
    reads_on (bad l g) n r' = let y : ◌≡◌ {A = ℕ} 0 1 = cc in absurd (omega arith)
    reads_on (misplaced l g e) n r' = let y : ◌≡◌ {A = ℕ} 0 1 = cc in absurd (omega arith)
    reads_on (too_many l g e) n r' = let y : ◌≡◌ {A = ℕ} 0 1 = cc in absurd (omega arith)
    reads_on (ends l g e) n r' = let y : ◌≡◌ {A = ℕ} 0 1 = cc in absurd (omega arith)
    reads_on {c' = c'} (passes {c = c} l g e r) n r' =
        recount (omega arith) (passes (longer l) (token_stays l g (λ v. let y : ◌≡◌ {A = ℕ} 0 1 = cc in omega arith)) e (reads_on r n r'))
