-- The ways of a call, and why a length fits. Assumes nothing.
use mathlib.Core.Path.{◌≡◌, refl}
use Prim.Native.Nat.{ℕ, ◌≤◌, ◌<◌}
use mathlib.Core.Bool.{or-true}
use mathlib.Core.List.{List, []}
use native.Mathlib.Omega.{arith}
use borrow.Author.Tests.{lt-ltb, le-ltb, ne_eqb}
use lib.ListN.{length}
use Rattle.refusal.specs.Numbers.{bad_call}
use Rattle.refusal.specs.Paper.{Paper, gives, more, refused}
use Rattle.refusal.specs.declared.Format.{Format}
use Rattle.refusal.specs.declared.Format.TheVariants.{Binary, Text}
use Rattle.scan.specs.Walk.{scan_of}
use Rattle.scan.proofs.Stops.{scan_positive}
use Rattle.abi.specs.Call.{binary, text, most_bytes, call_of, Fitting}

-- a length lies in the bytes, so that it fits where their number does
pub scan_fits : (f : Format) (s : List ℕ) → length s ≤ most_bytes → Fitting (scan_of f s)
unfolding Fitting
scan_fits f s h = by (scan_of f s) refl
  where
    by : (r : Paper ℕ) → scan_of f s ≡ r → Fitting r
    by (gives n) e = let x = (scan_positive f s n e).1 in omega arith
    by more e = tt
    by (refused n vs) e = tt

-- the four ways of a call: too many bytes, no format, binary, text
pub call_long : (format : ℕ) (s : List ℕ) → most_bytes < length s → call_of format s ≡ refused bad_call []
unfolding call_of
call_long format s h = rw (lt-ltb _ _ h, or-true)

pub call_strange : (format : ℕ) (s : List ℕ) → (format ≡ binary → ⊥) → (format ≡ text → ⊥) → call_of format s ≡ refused bad_call []
unfolding call_of
call_strange format s p q = rw (ne_eqb _ _ p, ne_eqb _ _ q)

pub call_binary : (format : ℕ) (s : List ℕ) → format ≡ binary → length s ≤ most_bytes → call_of format s ≡ scan_of Binary s
unfolding call_of
call_binary format s e h = rw (e, le-ltb _ _ h)

pub call_text : (format : ℕ) (s : List ℕ) → format ≡ text → length s ≤ most_bytes → call_of format s ≡ scan_of Text s
unfolding call_of
call_text format s e h = rw (e, le-ltb _ _ h)
