-- What the readings of a record answer from its first byte on is what the scan says. Assumes nothing.
use mathlib.Core.Path.{◌≡◌, sym, ap, ◌∙◌}
use mathlib.Core.List.{List}
use Prim.Native.Nat.{ℕ}
use Rattle.refusal.specs.Paper.{Paper}
use Rattle.refusal.specs.declared.Format.TheVariants.{Binary}
use Rattle.automaton.specs.Step.{Block}
use Rattle.scan.specs.Walk.{arrive, walk, scan_of}
use Rattle.scan.proofs.Laws.{walk_token, walk_more, walk_refused}
use Rattle.lexer.proofs.Laws as lexer
use Rattle.kept.specs.declared.Blocks.{Blocks}
use Rattle.kept.specs.Kept.{due_of, blocks_of, blocks_then, no_blocks, open_in}
use Rattle.blocks.specs.Readings.{Reached, binary, read_by}
use Rattle.stream.proofs.Binary.{binary_reader}
use Rattle.stream.proofs.Open.{Good, good_none, then_good, then_opens, then_due}
use Rattle.stream.proofs.Turns.{Reads, at_end, unfinished, bad, misplaced, too_many, ends, passes, read, on_is}

module _ (s : List ℕ) where
  -- the automaton, from a place with some blocks open, comes to the same answer
  walks : {p c e z : ℕ} {b b' : Blocks} {w : Paper ℕ} → Reads binary s p b c e z b' w → Good b p → walk Binary s p (blocks_of b) (due_of b.due) ≡ w
  unfolding arrive
  walks {p} {b = b} (at_end l) G = walk_more Binary s p (blocks_of b) (due_of b.due) (lexer.ends Binary s p l)
  walks {p} {b = b} (unfinished l g) G = walk_more Binary s p (blocks_of b) (due_of b.due) g
  walks {p} {b = b} (bad l g) G = walk_refused Binary s p (blocks_of b) (due_of b.due) g
  walks {p} {b = b} (misplaced {a = a} {q = q} l g e) G = walk_token Binary s p (blocks_of b) (due_of b.due) g ∙ ap (arrive (walk Binary s) a q) e
  walks {p} {b = b} (too_many {a = a} {q = q} l g e) G = walk_token Binary s p (blocks_of b) (due_of b.due) g ∙ ap (arrive (walk Binary s) a q) e
  walks {p} {b = b} (ends {a = a} {q = q} l g e) G = walk_token Binary s p (blocks_of b) (due_of b.due) g ∙ ap (arrive (walk Binary s) a q) e
  walks {p} {b = b} (passes {a = a} {q = q} {x = x} {K = K} {d = d} l g e r) G =
      let h = then_good b p G x K d e q (binary_reader.grows s p x a q g).0 in
      walk_token Binary s p (blocks_of b) (due_of b.due) g ∙ ap (arrive (walk Binary s) a q) e
      ∙ sym (ap (λ (L : List Block). walk Binary s q L d) (then_opens b p G x K d e))
      ∙ sym (ap (walk Binary s q (blocks_of (blocks_then b K d))) (then_due b p G x K d e)) ∙ walks r h

  pub read_is_scan : (read_by binary s 0 no_blocks).answer ≡ scan_of Binary s
  unfolding scan_of no_blocks open_in
  read_is_scan =
      let r = read binary binary_reader s 0 no_blocks in
      ap (λ (x : Reached). x.answer) (on_is binary binary_reader s r.it 0) ∙ sym (walks r.it (good_none 0))
