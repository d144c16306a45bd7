-- No two cases of the C call share a number: a positive number is a length, 0 is Incomplete, and a negative one is a refusal. Assumes nothing.
use mathlib.Core.Path.{◌≡◌, refl, sym, ap}
use mathlib.Core.Logic.{◌↔◌}
use Prim.Native.Nat.{ℕ, zero, suc, ◌≤◌, ◌<◌}
use mathlib.Core.Bool.{Bool, true, false, ◌||◌}
use mathlib.Core.List.{List, []}
use native.Mathlib.Omega.{arith}
use borrow.Author.Tests.{ltb-false}
use lib.IntN.{pos, negsuc, neg_ℤ, pos-ne-negsuc}
use lib.ListN.{length}
use mir.Syntax.{w64}
use mir.Val.{SFits}
use Rattle.refusal.specs.Numbers.{too_deep, bad_call}
use Rattle.refusal.specs.Paper.{Paper, gives, more, refused, pick}
use Rattle.scan.specs.Walk.{scan_of}
use Rattle.scan.proofs.Stops.{scan_positive, scan_refused}
use Rattle.abi.specs.Call.{most_bytes, no_format, too_long, format_of, call_of, signed, call_number}
use Rattle.abi.proofs.Negated.{minus_fits}

module _ (format : ℕ) (s : List ℕ) where
  -- 1. The values that an answer carries

  -- a length is never 0, lies in the bytes, and fits
  pub length_lies : (n : ℕ) → call_of format s ≡ gives n → (0 < n) × (n ≤ length s) × (n ≤ most_bytes)
  unfolding call_of
  length_lies n e = by (no_format format) (too_long s) refl e
    where
      by : (a b : Bool) → too_long s ≡ b → pick (a || b) (refused bad_call []) (scan_of (format_of format) s) ≡ gives n → (0 < n) × (n ≤ length s) × (n ≤ most_bytes)
      by true b t e = let z : ◌≡◌ {A = ℕ} 0 1 = cc in absurd (omega arith)
      by false true t e = let z : ◌≡◌ {A = ℕ} 0 1 = cc in absurd (omega arith)
      by false false t e = let x = scan_positive (format_of format) s n e in (x.0, x.1, omega (arith, x.1, ltb-false most_bytes (length s) t))

  -- the scan's refusals have the numbers up to 13, and 29 comes before the scan alone
  pub refusal_lies : (n : ℕ) (vs : List ℕ) → call_of format s ≡ refused n vs → (0 < n) × (n ≤ bad_call) × ((n ≡ bad_call) ↔ ((no_format format || too_long s) ≡ true))
  unfolding call_of
  refusal_lies n vs e = by (no_format format || too_long s) e
    where
      by : (b : Bool) → pick b (refused bad_call []) (scan_of (format_of format) s) ≡ refused n vs → (0 < n) × (n ≤ bad_call) × ((n ≡ bad_call) ↔ (b ≡ true))
      by true e = let k : bad_call ≡ n = cc in (omega arith, omega arith, (λ h. refl, λ h. sym k))
      by false e = let x = scan_refused (format_of format) s n vs e in let m : n ≤ too_deep = x.1 in (x.0, omega arith, (λ h. absurd (omega arith), λ h. let z : ◌≡◌ {A = ℕ} 0 1 = cc in absurd (omega arith)))

  -- 2. The number tells the case

  pub positive_is_length : (n : ℕ) → (call_number format s ≡ pos (suc n)) ↔ (call_of format s ≡ gives (suc n))
  positive_is_length n = (λ h. by (call_of format s) refl h, λ e. ap signed e)
    where
      by : (r : Paper ℕ) → call_of format s ≡ r → signed r ≡ pos (suc n) → r ≡ gives (suc n)
      by (gives m) e h = cc
      by more e h = let z : ◌≡◌ {A = ℕ} 0 (suc n) = cc in absurd (omega arith)
      by (refused zero vs) e h = absurd (omega (arith, (refusal_lies zero vs e).0))
      by (refused (suc m) vs) e h = absurd (pos-ne-negsuc (suc n) m (sym h))

  pub zero_is_incomplete : (call_number format s ≡ pos 0) ↔ (call_of format s ≡ more)
  zero_is_incomplete = (λ h. by (call_of format s) refl h, λ e. ap signed e)
    where
      by : (r : Paper ℕ) → call_of format s ≡ r → signed r ≡ pos 0 → r ≡ more
      by (gives m) e h = let z : m ≡ 0 = cc in absurd (omega (arith, (length_lies m e).0))
      by more e h = refl
      by (refused zero vs) e h = absurd (omega (arith, (refusal_lies zero vs e).0))
      by (refused (suc m) vs) e h = absurd (pos-ne-negsuc 0 m (sym h))

  pub negative_is_refusal : (n : ℕ) → 0 < n → (call_number format s ≡ neg_ℤ (pos n)) ↔ ((vs : List ℕ) × (call_of format s ≡ refused n vs))
  negative_is_refusal zero p = absurd (omega arith)
  negative_is_refusal (suc n) p = (λ h. by (call_of format s) refl h, λ x. ap signed x.1)
    where
      by : (r : Paper ℕ) → call_of format s ≡ r → signed r ≡ negsuc n → (vs : List ℕ) × (r ≡ refused (suc n) vs)
      by (gives m) e h = absurd (pos-ne-negsuc m n h)
      by more e h = absurd (pos-ne-negsuc 0 n h)
      by (refused zero vs) e h = absurd (pos-ne-negsuc 0 n h)
      by (refused (suc m) vs) e h = (vs, cc)

  -- 3. The number itself

  -- it is one that 64 bits hold
  pub number_fits : SFits w64 (call_number format s)
  number_fits = by (call_of format s) refl
    where
      by : (r : Paper ℕ) → call_of format s ≡ r → SFits w64 (signed r)
      by (gives n) e = let x = (length_lies n e).2 in record { sfits = omega arith }
      by more e = record { sfits = omega arith }
      by (refused n vs) e = minus_fits n (refusal_lies n vs e).1

  -- 29 is given before the scan and by no scan
  pub bad_call_lem : (call_number format s ≡ neg_ℤ (pos bad_call)) ↔ ((no_format format || too_long s) ≡ true)
  unfolding call_of
  bad_call_lem = (λ h. let x = (negative_is_refusal bad_call (omega arith)).0 h in (refusal_lies bad_call x.0 x.1).2.0 refl, λ t. ap (λ (b : Bool). signed (pick b (refused bad_call []) (scan_of (format_of format) s))) t)
