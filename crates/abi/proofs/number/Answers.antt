-- `number` meets its contract: a length that fits stays itself as an i64, and no refusal's number is above 29.
use mathlib.Core.Path.{◌≡◌, sym, subst, ap, ◌∙◌}
use Prim.Native.Nat.{ℕ, ◌<◌, ◌^◌}
use native.Mathlib.Omega.{arith}
use lib.IntN.{ℤ}
use mir.Syntax.{w64}
use mir.Val.{hbits}
use mir.Facts.{to_z_pos}
use Rattle.std.specs.Prelude.{Result, Ok}
use Rattle.refusal.specs.declared.Unwhole.{Unwhole}
use Rattle.scan.specs.Meaning.{scan_meaning}
use Rattle.abi.specs.Call.{signed, Fitting}
use Rattle.abi.proofs.number.Goals as goal

abbrev told : Result ℕ Unwhole → ℤ
told r = signed (scan_meaning r)

in-half : {r : Result ℕ Unwhole} {n : ℕ} → Fitting (scan_meaning r) → r ≡ Ok n → n < 2 ^ hbits w64
unfolding Fitting
in-half h e = let x = subst (λ (r : Result ℕ Unwhole). Fitting (scan_meaning r)) e h in omega arith

pub overflow_cast-result : goal.overflow_cast-result
overflow_cast-result c = record { sfits = in-half c.requires c.in-Ok.is }

pub returns-in-Ok : goal.returns-in-Ok
returns-in-Ok c = to_z_pos w64 (in-half c.requires c.in-Ok.is) ∙ ap told (sym c.in-Ok.is)
