-- A length is answered exactly where the grammar has a value, in both formats; and there is one such length at most.
use mathlib.Core.Path.{◌≡◌, sym, ◌∙◌}
use mathlib.Core.Logic.{◌↔◌}
use Prim.Native.Nat.{ℕ}
use mathlib.Core.List.{List}
use Rattle.refusal.specs.Paper.{gives}
use Rattle.refusal.specs.declared.Format.{Format}
use Rattle.scan.specs.Walk.{scan_of}
use Rattle.grammar.specs.Grammar.{Looseness, loose, tree, Reads}
use Rattle.grammar.proofs.Complete.{found}
use Rattle.grammar.proofs.Sound.{real}

module _ (f : Format) (s : List ℕ) where
  -- the scan gives length n exactly if the grammar has a value from 0 to n
  pub complete_iff_grammar : (n : ℕ) → (scan_of f s ≡ gives n) ↔ Reads loose f s tree 0 0 n
  complete_iff_grammar n = (real f s n, found loose f s n)

  -- at most one value starts at the first byte, however loose the grammar
  pub one_end : (l k : Looseness) (m n : ℕ) → Reads l f s tree 0 0 m → Reads k f s tree 0 0 n → m ≡ n
  one_end l k m n x y = let e : gives m ≡ gives n = sym (found l f s m x) ∙ found k f s n y in cc
