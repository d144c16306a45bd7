-- One step of the run, with no count of steps in sight.
use mathlib.Core.Path.{◌≡◌, refl, sym, ap, ◌∙◌}
use Prim.Native.Nat.{ℕ, zero, suc, ◌+◌, ◌<◌}
use mathlib.Core.List.{List}
use native.Mathlib.Omega.{arith}
use lib.ListN.{length}
use Rattle.refusal.specs.Paper.{Paper, gives, more, refused, Spot, spot}
use Rattle.refusal.specs.declared.Format.{Format}
use Rattle.token.specs.declared.Kind.{Kind}
use Rattle.lexer.specs.Lexer.{kind_at, skip_of}
use Rattle.lexer.proofs.Laws.{ends, skip_same}
use Rattle.automaton.specs.Step.{Block, Due, Step, go, finished, wrong, deep, step}
use Rattle.scan.specs.Walk.{Cont, arrive, on_read, run_for, walk}
use Rattle.scan.proofs.Tokens.{token_grows}

module _ (f : Format) (s : List ℕ) where
  -- two ways on that agree behind the place give the same
  on_read_lem : (at : ℕ) (k k' : Cont) (K : List Block) (d : Due) → ((q : ℕ) (K : List Block) (d : Due) → at < q → k q K d ≡ k' q K d) → on_read k K d (kind_at f s at) ≡ on_read k' K d (kind_at f s at)
  unfolding on_read arrive
  on_read_lem at k k' K d h = by_read (kind_at f s at) refl
    where
      by_step : (first next : ℕ) → at < next → (t : Step) → arrive k first next t ≡ arrive k' first next t
      by_step first next p (go L e) = h next L e p
      by_step first next p finished = refl
      by_step first next p (wrong n) = refl
      by_step first next p deep = refl

      by_read : (r : Paper (Spot Kind)) → kind_at f s at ≡ r → on_read k K d r ≡ on_read k' K d r
      by_read (gives (spot t first next)) e = by_step first next (token_grows f s at e).0 (step d K t)
      by_read more e = refl
      by_read (refused n vs) e = refl

  -- any count that lasts past the end gives the same
  enough : (m n at : ℕ) (K : List Block) (d : Due) → length s < m + at → length s < n + at → run_for f s m at K d ≡ run_for f s n at K d
  unfolding run_for on_read
  enough zero zero at K d p q = refl
  enough zero (suc n) at K d p q = rw (ends f s at (omega arith))
  enough (suc m) zero at K d p q = rw (ends f s at (omega arith))
  enough (suc m) (suc n) at K d p q = on_read_lem at (run_for f s m) (run_for f s n) K d (λ r L e h. enough m n r L e (omega arith) (omega arith))

  -- the run reads the token at its place, and goes on behind it
  pub walk_unfolds : (at : ℕ) (K : List Block) (d : Due) → walk f s at K d ≡ on_read (walk f s) K d (kind_at f s at)
  unfolding walk run_for
  walk_unfolds at K d = on_read_lem at (run_for f s (length s)) (run_for f s (suc (length s))) K d (λ r L e h. enough (length s) (suc (length s)) r L e (omega arith) (omega arith))

  module _ (at : ℕ) (K : List Block) (d : Due) where
    -- the three things that can stand at a place
    pub walk_token : {k : Kind} {first next : ℕ} → kind_at f s at ≡ gives (spot k first next) → walk f s at K d ≡ arrive (walk f s) first next (step d K k)
    unfolding on_read
    walk_token e = walk_unfolds at K d ∙ ap (on_read (walk f s) K d) e

    pub walk_more : kind_at f s at ≡ more → walk f s at K d ≡ more
    unfolding on_read
    walk_more e = walk_unfolds at K d ∙ ap (on_read (walk f s) K d) e

    pub walk_refused : {n : ℕ} {vs : List ℕ} → kind_at f s at ≡ refused n vs → walk f s at K d ≡ refused n vs
    unfolding on_read
    walk_refused e = walk_unfolds at K d ∙ ap (on_read (walk f s) K d) e

    -- what is ignored before a token changes nothing
    pub walk_skip : (p : ℕ) → p ≡ skip_of f s at → walk f s at K d ≡ walk f s p K d
    walk_skip p e = walk_unfolds at K d ∙ ap (on_read (walk f s) K d) (sym (ap (kind_at f s) e ∙ skip_same f s at)) ∙ sym (walk_unfolds p K d)
