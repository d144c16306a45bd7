-- Incomplete means only that the bytes ended inside a value, and a refusal is that of the first wrong token in reading order. Both hold
-- both ways round, so that neither a scan that always says Incomplete nor one that refuses everything meets them.
use mathlib.Core.Path.{◌≡◌, refl, sym, ◌∙◌}
use mathlib.Core.Logic.{◌↔◌}
use Prim.Native.Nat.{ℕ}
use mathlib.Core.List.{List, [], ◌∷◌}
use native.Mathlib.Omega.{arith}
use Rattle.refusal.specs.Numbers.{not_value}
use Rattle.refusal.specs.Paper.{Paper, more, refused}
use Rattle.refusal.specs.declared.Format.{Format}
use Rattle.refusal.specs.declared.Format.TheVariants.{Binary}
use Rattle.lexer.specs.Lexer.{kind_at, list_closes}
use Rattle.lexer.proofs.Laws.{ends, mark_here, skip_binary}
use Rattle.automaton.specs.Step.{Block, Due, value, on_value, on_object, step}
use Rattle.scan.specs.Stops.{none}
use Rattle.scan.specs.Walk.{scan_of}
use Rattle.scan.specs.Stops.{Stop, ran_out, misplaced, Stops}
use Rattle.scan.proofs.Stops.{scan_stops}
use Rattle.grammar.specs.Stopped.{EndedInside, FirstWrong}

module _ (f : Format) (s : List ℕ) where
  -- Incomplete exactly where the bytes ended inside a value
  pub incomplete_iff_ended : (scan_of f s ≡ more) ↔ EndedInside f s
  incomplete_iff_ended = ((λ e. by ((scan_stops f s more).0 e)), λ x. (scan_stops f s more).1 (record { count = x.count; place = x.place; blocks = x.blocks; due = x.due; passed = x.passed; stop = ran_out x.ended }))
    where
      at_end : {p : ℕ} {K : List Block} {d : Due} → Stop f s p K d more → kind_at f s p ≡ more
      at_end (ran_out e) = e

      by : Stops f s 0 [] value more → EndedInside f s
      by x = record { count = x.count; place = x.place; blocks = x.blocks; due = x.due; passed = x.passed; ended = at_end x.stop }

  -- refused exactly by the first wrong token, with its number and values
  pub refused_iff_wrong : (m : ℕ) (vs : List ℕ) → (scan_of f s ≡ refused m vs) ↔ FirstWrong f s m vs
  refused_iff_wrong m vs = ((λ e. let x = (scan_stops f s (refused m vs)).0 e in record { count = x.count; place = x.place; blocks = x.blocks; due = x.due; passed = x.passed; wrong = x.stop }), λ x. (scan_stops f s (refused m vs)).1 (record { count = x.count; place = x.place; blocks = x.blocks; due = x.due; passed = x.passed; stop = x.wrong }))

-- no bytes end inside a value
pub nothing_ends_inside : (f : Format) → EndedInside f []
nothing_ends_inside f = record { count = 0; place = 0; blocks = []; due = value; passed = none; ended = ends f [] 0 (omega arith) }

-- the one byte `]`, in binary, is refused 10 with the place after it
abbrev pub bracket : List ℕ
bracket = 0x5D ∷ []

pub bracket_refused : scan_of Binary bracket ≡ refused not_value (1 ∷ [])
unfolding step on_value on_object
bracket_refused = (refused_iff_wrong Binary bracket not_value (1 ∷ [])).1 (record { count = 0; place = 0; blocks = []; due = value; passed = none; wrong = misplaced (mark_here Binary bracket 0 list_closes (omega arith) (skip_binary bracket 0) refl) refl })

-- a scan that always says Incomplete does not meet the first of the two
pub always_incomplete_fails : (scan : Format → List ℕ → Paper ℕ) → ((f : Format) (s : List ℕ) → (scan f s ≡ more) ↔ EndedInside f s) → ((f : Format) (s : List ℕ) → scan f s ≡ more) → ⊥
always_incomplete_fails scan meets always = let e : more ≡ refused not_value (1 ∷ []) = sym ((incomplete_iff_ended Binary bracket).1 ((meets Binary bracket).0 (always Binary bracket))) ∙ bracket_refused in let z : ◌≡◌ {A = ℕ} 0 1 = cc in omega arith

-- nor does one that refuses everything
pub always_refused_fails : (scan : Format → List ℕ → Paper ℕ) → ((f : Format) (s : List ℕ) → (scan f s ≡ more) ↔ EndedInside f s) → ((f : Format) (s : List ℕ) → (m : ℕ) × (vs : List ℕ) × (scan f s ≡ refused m vs)) → ⊥
always_refused_fails scan meets always = let r = always Binary [] in let e : refused r.0 r.1 ≡ more = sym r.2 ∙ (meets Binary []).1 (nothing_ends_inside Binary) in let z : ◌≡◌ {A = ℕ} 0 1 = cc in omega arith
