-- The run from a place answers r exactly where tokens are passed to one from which r comes. So a length lies in the bytes, a refusal has
-- a name, and in binary neither is changed by bytes behind.
use mathlib.Core.Path.{◌≡◌, refl, sym, ap, subst, ◌∙◌}
use mathlib.Core.Logic.{◌↔◌}
use Prim.Native.Nat.{ℕ, zero, suc, ◌+◌, ◌≤◌, ◌<◌}
use mathlib.Core.List.{List, [], ◌∷◌, ◌++◌}
use native.Mathlib.Omega.{arith}
use lib.ListN.{length}
use Rattle.refusal.specs.Numbers.{too_deep}
use Rattle.refusal.specs.Paper.{Paper, gives, more, refused, Spot, spot}
use Rattle.refusal.specs.declared.Format.{Format}
use Rattle.refusal.specs.declared.Format.TheVariants.{Binary}
use Rattle.token.specs.declared.Kind.{Kind}
use Rattle.lexer.specs.Lexer.{kind_at, skip_of}
use Rattle.lexer.proofs.Laws.{ends, refused_is, settled}
use Rattle.automaton.specs.Step.{Block, Due, value, Step, go, finished, wrong, deep, step}
use Rattle.scan.specs.Stops.{Passed, none, passes}
use Rattle.scan.specs.Walk.{arrive, walk, scan_of}
use Rattle.scan.specs.Stops.{Stop, ran_out, bad_token, misplaced, too_many, last_token, Stops}
use Rattle.scan.proofs.Tokens.{token_grows}
use Rattle.scan.proofs.Laws.{walk_token, walk_more, walk_refused}
use Rattle.automaton.proofs.Named.{wrong_named}
use Rattle.scan.proofs.Kept.{kept_place, passed_grows, token_longer, passed_longer}

-- 1. Both ways

module _ (f : Format) (s : List ℕ) where
  -- from where it stops, the run answers so
  pub stop_answers : {p : ℕ} {K : List Block} {d : Due} {r : Paper ℕ} → Stop f s p K d r → walk f s p K d ≡ r
  unfolding arrive
  stop_answers {p} {K} {d} (ran_out e) = walk_more f s p K d e
  stop_answers {p} {K} {d} (bad_token e) = walk_refused f s p K d e
  stop_answers {p} {K} {d} (misplaced {a = a} {n = n} e g) = walk_token f s p K d e ∙ ap (arrive (walk f s) a n) g
  stop_answers {p} {K} {d} (too_many {a = a} {n = n} e g) = walk_token f s p K d e ∙ ap (arrive (walk f s) a n) g
  stop_answers {p} {K} {d} (last_token {a = a} {n = n} e g) = walk_token f s p K d e ∙ ap (arrive (walk f s) a n) g

  at_once : {p : ℕ} {K : List Block} {d : Due} {r : Paper ℕ} → Stop f s p K d r → Stops f s p K d (walk f s p K d)
  at_once {p} {K} {d} x = subst (Stops f s p K d) (sym (stop_answers x)) (record { count = 0; place = p; blocks = K; due = d; passed = none; stop = x })

  -- what is known of the runs from behind p
  abbrev OnFrom : ℕ → Type 0
  OnFrom p = (n : ℕ) (L : List Block) (v : Due) → p < n → Stops f s n L v (walk f s n L v)

  -- every run stops; m is more than the bytes left
  stops_from : (m p : ℕ) (K : List Block) (d : Due) → length s < m + p → Stops f s p K d (walk f s p K d)
  unfolding arrive
  stops_from zero p K d h = at_once (ran_out (ends f s p (omega arith)))
  stops_from (suc m) p K d h = by_read (kind_at f s p) refl (λ n L v i. stops_from m n L v (omega arith))
    where
      by_step : {k : Kind} {a n : ℕ} → kind_at f s p ≡ gives (spot k a n) → (u : Step) → step d K k ≡ u → OnFrom p → Stops f s p K d (walk f s p K d)
      by_step {k} {a} {n} e (go L v) g on = let x = on n L v (token_grows f s p e).0 in subst (Stops f s p K d) (sym (walk_token f s p K d e ∙ ap (arrive (walk f s) a n) g)) (record { count = suc x.count; place = x.place; blocks = x.blocks; due = x.due; passed = passes e g x.passed; stop = x.stop })
      by_step e finished g on = at_once (last_token e g)
      by_step e (wrong w) g on = at_once (misplaced e g)
      by_step e deep g on = at_once (too_many e g)

      by_read : (t : Paper (Spot Kind)) → kind_at f s p ≡ t → OnFrom p → Stops f s p K d (walk f s p K d)
      by_read (gives (spot k a n)) e on = by_step e (step d K k) refl on
      by_read more e on = at_once (ran_out e)
      by_read (refused n vs) e on = at_once (bad_token e)

  pub run_stops : (p : ℕ) (K : List Block) (d : Due) (r : Paper ℕ) → (walk f s p K d ≡ r) ↔ Stops f s p K d r
  run_stops p K d r = ((λ e. subst (Stops f s p K d) e (stops_from (suc (length s)) p K d (omega arith))), λ x. kept_place x.passed ∙ stop_answers x.stop)

  pub scan_stops : (r : Paper ℕ) → (scan_of f s ≡ r) ↔ Stops f s 0 [] value r
  unfolding scan_of
  scan_stops r = run_stops 0 [] value r

  -- 2. Lengths and refusals

  -- a length is positive and lies in the bytes
  pub scan_positive : (n : ℕ) → scan_of f s ≡ gives n → (0 < n) × (n ≤ length s)
  scan_positive n e = let x = (scan_stops (gives n)).0 e in by x.passed x.stop
    where
      by : {c z : ℕ} {M : List Block} {u : Due} → Passed f s c 0 [] value z M u → Stop f s z M u (gives n) → (0 < n) × (n ≤ length s)
      by {z = z} x (last_token e g) = let y = token_grows f s z e in (omega (arith, y.0), y.1)

-- 3. Numbers and places

-- a refusal of the scan is one of those with a name, and carries one place
pub scan_refused : (f : Format) (s : List ℕ) (m : ℕ) (vs : List ℕ) → scan_of f s ≡ refused m vs → (0 < m) × (m ≤ too_deep) × ((p : ℕ) × (vs ≡ p ∷ []))
scan_refused f s m vs e = by ((scan_stops f s (refused m vs)).0 e).stop
  where
    by : {z m : ℕ} {vs : List ℕ} {M : List Block} {u : Due} → Stop f s z M u (refused m vs) → (0 < m) × (m ≤ too_deep) × ((p : ℕ) × (vs ≡ p ∷ []))
    by {z = z} (bad_token e) = let g = refused_is f s z e in (omega (arith, g.0), omega (arith, g.1), (skip_of f s z, g.2))
    by {M = M} {u = u} (misplaced {n = n} {w = w} {k = k} e g) = let x = wrong_named u M k w g in (x.0, x.1, (n, refl))
    by (too_many {a = a} e g) = (omega arith, omega arith, (a, refl))

-- 4. Settled: in binary, bytes behind change nothing unless more were needed

module _ (s t : List ℕ) where
  stop_longer : {p : ℕ} {K : List Block} {d : Due} {r : Paper ℕ} → p ≤ length s → (r ≡ more → ⊥) → Stop Binary s p K d r → Stop Binary (s ++ t) p K d r
  stop_longer h n (ran_out e) = absurd (n refl)
  stop_longer {p} h n (bad_token e) = bad_token (settled s t p h (λ i. let z : ◌≡◌ {A = ℕ} 0 1 = cc in omega arith) ∙ e)
  stop_longer {p} h n (misplaced e g) = misplaced (token_longer s t p h e) g
  stop_longer {p} h n (too_many e g) = too_many (token_longer s t p h e) g
  stop_longer {p} h n (last_token e g) = last_token (token_longer s t p h e) g

  pub run_settled : (p : ℕ) (K : List Block) (d : Due) → p ≤ length s → (walk Binary s p K d ≡ more → ⊥) → walk Binary (s ++ t) p K d ≡ walk Binary s p K d
  run_settled p K d h n =
      let x = (run_stops Binary s p K d (walk Binary s p K d)).0 refl in
      (run_stops Binary (s ++ t) p K d (walk Binary s p K d)).1 (record { count = x.count; place = x.place; blocks = x.blocks; due = x.due; passed = passed_longer t h x.passed; stop = stop_longer (passed_grows x.passed h).1 n x.stop })

  -- a length or a refusal is unchanged by bytes behind
  pub scan_settled : (scan_of Binary s ≡ more → ⊥) → scan_of Binary (s ++ t) ≡ scan_of Binary s
  unfolding scan_of
  scan_settled n = run_settled 0 [] value (omega arith) n
