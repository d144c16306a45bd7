-- Minus a refusal's number, as 64 bits hold it. Assumes nothing.
use mathlib.Core.Path.{◌≡◌, sym, subst, ap, ◌∙◌}
use Prim.Native.Nat.{ℕ, zero, suc, ◌≤◌, ◌<◌}
use native.Mathlib.Omega.{arith}
use lib.Dec.{lit<}
use lib.IntN.{ℤ, pos, neg_ℤ, ◌-ℤ◌, +ℤ_idl}
use lib.Signed.{mag}
use mir.Syntax.{w64}
use mir.Val.{SFits, to_z, of_z}
use mir.Facts.{to_z_pos, to_z-of_z}
use Rattle.refusal.specs.Numbers.{bad_call}

-- a signed number that is passed on in 64 bits
pub held : (z : ℤ) → mag z < 9223372036854775808 → to_z w64 (of_z w64 z) ≡ z
held z h = to_z-of_z {w = w64} (record { sfits = h })

-- minus such a number fits
pub minus_fits : (k : ℕ) → k ≤ bad_call → SFits w64 (neg_ℤ (pos k))
minus_fits zero p = record { sfits = lit< tt }
minus_fits (suc k) p = record { sfits = omega arith }

module _ (k : ℕ) (p : k ≤ bad_call) where
  -- nought less the number is minus the number
  pub nought_less : pos 0 -ℤ to_z w64 k ≡ neg_ℤ (pos k)
  nought_less = ap (λ (z : ℤ). pos 0 -ℤ z) (to_z_pos w64 {n = k} (omega arith)) ∙ +ℤ_idl (neg_ℤ (pos k))

  pub less_fits : SFits w64 (pos 0 -ℤ to_z w64 k)
  less_fits = subst (SFits w64) (sym nought_less) (minus_fits k p)

  pub less_is : to_z w64 (of_z w64 (pos 0 -ℤ to_z w64 k)) ≡ neg_ℤ (pos k)
  less_is = to_z-of_z less_fits ∙ nought_less
