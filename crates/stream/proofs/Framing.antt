-- The whole stream's meaning, case by case. Assumes nothing.
use mathlib.Core.Path.{◌≡◌, refl, sym, ap, ◌∙◌}
use mathlib.Core.List.{List, [], ◌∷◌, append-nil}
use Prim.Native.Nat.{ℕ, ◌+◌, ◌<◌}
use native.Mathlib.Omega.{arith}
use lib.ListN.{length, take, drop}
use borrow.Author.Tests.{le-leb, lt-leb}
use Rattle.refusal.specs.Paper.{Paper, gives, more, refused}
use Rattle.refusal.specs.declared.Format.TheVariants.{Binary}
use Rattle.scan.specs.Walk.{scan_of}
use Rattle.kept.specs.Kept.{no_blocks}
use Rattle.blocks.specs.Readings.{Reached, binary}
use Rattle.reader.specs.Meaning.{ended}
use Rattle.buffer.specs.Buffer.{separators}
use Rattle.stream.specs.Whole.{Out, last, framed, whole}
use Rattle.stream.specs.Framing.{Starts, Framing}
use Rattle.stream.proofs.Binary.{binary_reader}
use Rattle.stream.proofs.Turns.{read, on_is, reads_to, reads_record}
use Rattle.stream.proofs.Records.{behind, behind_some, none_left, record_first, skips, first_none}
use Rattle.stream.proofs.Scan.{read_is_scan}

-- a record that is found has a byte
scan_some : (s : List ℕ) (q : ℕ) → scan_of Binary s ≡ gives q → 0 < q
scan_some s q e =
    let r = read binary binary_reader s 0 no_blocks in
    let a : r.answer ≡ gives q = sym (ap (λ (x : Reached). x.answer) (on_is binary binary_reader s r.it 0)) ∙ read_is_scan s ∙ e in
    let m = reads_record binary binary_reader s r.it q a in
    let y = reads_to binary binary_reader s r.it (omega arith) in
    omega (arith, m.0, m.3, y.0)

module _ (n : ℕ) where
  abbrev end : Out
  end = last (gives ended)

  abbrev one : List ℕ → ℕ → (ℕ → Out) → Out
  one R o on = framed (scan_of Binary (take n R)) n o R on

  whole_starts : (o : ℕ) (R : List ℕ) → Starts R → whole n o R ≡ one R o (behind end one R o)
  whole_starts o [] S = absurd (omega (arith, S.some))
  whole_starts o (x ∷ xs) S = record_first end one x xs o (first_none x xs S.none)

  -- by what the scan says
  whole_by : (o : ℕ) (R : List ℕ) (w : Paper ℕ) → Starts R → scan_of Binary (take n R) ≡ w → whole n o R ≡ framed w n o R (behind end one R o)
  whole_by o R w S e = whole_starts o R S ∙ ap (λ (y : Paper ℕ). framed y n o R (behind end one R o)) e

  pub whole_framing : Framing n
  unfolding framed
  whole_framing = record {
    separated = λ o R. ap (λ (x : List ℕ). whole n o x) (sym (append-nil R)) ∙ skips end one R [] o ∙ ap (λ (x : List ℕ). whole n (o + separators R) x) (append-nil (drop (separators R) R));
    empty = λ o. none_left end one o;
    found = λ o q R S e. whole_by o R (gives q) S e ∙ ap (framed_item o q R) (behind_some end one R o q (scan_some (take n R) q e));
    malformed = λ o m vs R S e. whole_by o R (refused m vs) S e;
    long = λ o R S e h. whole_by o R more S e ∙ rw (le-leb n (length R) h) refl;
    short = λ o R S e h. whole_by o R more S e ∙ rw (lt-leb n (length R) h) refl;
  }
    where
      framed_item : ℕ → ℕ → List ℕ → Out → Out
      framed_item o q R x = framed (gives q) n o R (λ _. x)
