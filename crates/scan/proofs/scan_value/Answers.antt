-- `scan_value` meets its contract: with no block open the run ends with the value.
use mathlib.Core.Path.{◌≡◌, refl, sym, ◌∙◌}
use Prim.Native.Nat.{ℕ}
use mathlib.Core.List.{List, []}
use mathlib.Core.Bool.{false}
use Rattle.refusal.specs.Paper.{Paper, gives, more, refused}
use Rattle.refusal.specs.declared.Format.{Format}
use Rattle.lexer.specs.Lexer.{skip_of}
use Rattle.automaton.specs.Step.{value, after}
use Rattle.scan.specs.Walk.{arrive, scan_of}
use Rattle.scan.specs.Post.{resume, Begun}
use Rattle.scan.proofs.Parts.{skipped}
use Rattle.scan.proofs.Tokens.{skip_here}
use Rattle.scan.proofs.scan_value.Goals as goal

-- what the value at the first place answers is what the scan does
ends : {f : Format} {s : List ℕ} {r : Paper ℕ} (p : ℕ) {n : ℕ} → p ≡ skip_of f s 0 → n ≡ 0 → Begun f s p n false r → r ≡ scan_of f s
unfolding scan_of after resume arrive
ends {f} {s} {r} p e z x = go r ∙ sym ((skipped f s p (λ K. K) value e x).runs [] (sym z))
  where
    go : (r : Paper ℕ) → r ≡ resume f s (after []) r
    go (gives q) = refl
    go more = refl
    go (refused n vs) = refl

pub scan_begun-requires : goal.scan_begun-requires
scan_begun-requires c = skip_here _ _ _ _ c.skip-p.ensures

pub returns-in-Some : goal.returns-in-Some
returns-in-Some c = ends _ c.skip-p.ensures c.outermost.ensures c.in-Some.ensures

pub returns-in-None : goal.returns-in-None
returns-in-None c = ends _ c.skip-p.ensures c.outermost.ensures c.in-None.ensures
