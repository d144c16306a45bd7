-- Tokens that are passed: a kept place stands for the whole run, and stays good where bytes are added behind (binary).
use mathlib.Core.Path.{◌≡◌, refl, ap, subst, ◌∙◌}
use Prim.Native.Nat.{ℕ, ◌+◌, ◌≤◌}
use mathlib.Core.List.{List, ◌++◌}
use native.Mathlib.Omega.{arith}
use lib.ListN.{length}
use Rattle.refusal.specs.Paper.{gives, spot}
use Rattle.refusal.specs.declared.Format.{Format}
use Rattle.refusal.specs.declared.Format.TheVariants.{Binary}
use Rattle.token.specs.declared.Kind.{Kind}
use Rattle.lexer.specs.Lexer.{kind_at}
use Rattle.lexer.proofs.Laws.{settled}
use Rattle.automaton.specs.Step.{Block, Due}
use Rattle.scan.specs.Stops.{Passed, none, passes}
use Rattle.scan.specs.Walk.{arrive, walk}
use Rattle.scan.proofs.Tokens.{token_grows}
use Rattle.scan.proofs.Laws.{walk_token}

-- walking on from the kept place is the walk from the start
pub kept_place : {f : Format} {s : List ℕ} {c p z : ℕ} {K M : List Block} {d u : Due} → Passed f s c p K d z M u → walk f s p K d ≡ walk f s z M u
unfolding arrive
kept_place none = refl
kept_place {f} {s} (passes {p = p} {a = a} {q = q} {K = K} {d = d} e g x) = walk_token f s p K d e ∙ ap (arrive (walk f s) a q) g ∙ kept_place x

-- tokens passed one after another: the counts are added
pub passed_then : {f : Format} {s : List ℕ} {b c p q z : ℕ} {K L M : List Block} {d e u : Due} → Passed f s b p K d q L e → Passed f s c q L e z M u → Passed f s (b + c) p K d z M u
passed_then {f} {s} {c = c} {z = z} {K = K} {M = M} {d = d} {u = u} (none {p = p}) y = subst (λ (n : ℕ). Passed f s n p K d z M u) (omega arith) y
passed_then {f} {s} {c = c} {z = z} {M = M} {u = u} (passes {c = b} {p = p} {K = K} {d = d} e g x) y = subst (λ (n : ℕ). Passed f s n p K d z M u) (omega arith) (passes e g (passed_then x y))

-- each takes a byte at least, and they end in the bytes
pub passed_grows : {f : Format} {s : List ℕ} {c p z : ℕ} {K M : List Block} {d u : Due} → Passed f s c p K d z M u → p ≤ length s → (c + p ≤ z) × (z ≤ length s)
passed_grows none h = (omega arith, h)
passed_grows {f} {s} (passes {p = p} e g x) h = let y = token_grows f s p e in let r = passed_grows x y.1 in (omega (arith, y.0, r.0), r.1)

-- a binary token stays where bytes are added behind
pub token_longer : (s t : List ℕ) (p : ℕ) {k : Kind} {a n : ℕ} → p ≤ length s → kind_at Binary s p ≡ gives (spot k a n) → kind_at Binary (s ++ t) p ≡ gives (spot k a n)
token_longer s t p h e = settled s t p h (λ n. let z : ◌≡◌ {A = ℕ} 0 1 = cc in omega arith) ∙ e

pub passed_longer : {s : List ℕ} {c p z : ℕ} {K M : List Block} {d u : Due} (t : List ℕ) → p ≤ length s → Passed Binary s c p K d z M u → Passed Binary (s ++ t) c p K d z M u
passed_longer t h none = none
passed_longer {s} t h (passes {p = p} e g x) = passes (token_longer s t p h e) g (passed_longer t (token_grows Binary s p e).1 x)
