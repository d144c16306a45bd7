-- `word_cut` meets its contract: from the end on, each byte is set in front of the word of those behind it. Where the bytes end before p, none is.
use mathlib.Core.Path.{◌≡◌}
use mathlib.Core.Logic.{◌⊎◌}
use Prim.Native.Nat.{◌-◌, ◌≤◌}
use lib.ListN.{length}
use Rattle.word.specs.Word.{word_at}
use Rattle.word.proofs.word_cut.Given as goal

abbrev pub invariant-loop-q : goal.invariant-loop-q
invariant-loop-q l = ((l.p ≤ l.q) ⊎ (length l.s ≤ l.q)) × (l.w ≡ word_at (8 - (l.q - l.p)) l.s l.q)
