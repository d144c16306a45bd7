-- Writing the bytes of a walk: n are written into the output, and the rest of the walk is to be laid over what follows.
use mathlib.Core.Path.{◌≡◌, refl, sym, ap, ◌∙◌}
use mathlib.Core.List.{List, [], ◌∷◌, ◌++◌, append-nil, append_assoc}
use Prim.Native.Nat.{ℕ, suc, ◌+◌, ◌-◌, ◌≤◌, ◌<◌}
use native.Mathlib.Nat.{le_of_suc-le-suc, not-suc-le-zero, lt-suc_self}
use native.Mathlib.Numerals.{add-one}
use lib.ListN.{length, get_or, drop, take, set, drop_of_length-le, take-append-drop}
use Rattle.std.proofs.lemmas.List.{set-get_or}
use lib.Seq.{drop-cons, take_all, take-suc-set, drop-set-lt}
use Rattle.pieces.specs.Pieces.{Walk, walk, byte, ends, escape_of}
use Rattle.pieces.specs.Answers.{broken_at}
use Rattle.pieces.specs.declared.Escaped.{Escaped}
use Rattle.pieces.specs.declared.Broken.{Broken}
use Rattle.pieces.proofs.Walks.{closed_measures, walk_out, walk_quote, walk_plain, walk_byte, walk_ends}
use Rattle.unescape.specs.Overlay.{overlay}

unfoldable pub written : ℕ → List ℕ → List ℕ → List ℕ
written n out bs = take n out ++ overlay bs (drop n out)

pub written_start : (out bs : List ℕ) → written 0 out bs ≡ overlay bs out
unfolding written
written_start out bs = refl

overlay_none : (bs : List ℕ) → overlay bs [] ≡ []
unfolding overlay
overlay_none [] = refl
overlay_none (b ∷ bs) = refl

pub written_full : (n : ℕ) (out bs : List ℕ) → length out ≤ n → out ≡ written n out bs
unfolding written
written_full n out bs h = rw (take_all n out h, drop_of_length-le out h, overlay_none bs, append-nil out)

written_end : (n : ℕ) (out bs : List ℕ) → bs ≡ [] → out ≡ written n out bs
unfolding written overlay
written_end n out bs e = rw e (sym (take-append-drop n out))

written_more : (n : ℕ) (out : List ℕ) (v : ℕ) (bs : List ℕ) → n < length out → written (n + 1) (set out n v) bs ≡ written n out (v ∷ bs)
unfolding written overlay
written_more n out v bs h = rw (add-one, take-suc-set out n v h, drop-set-lt (suc n) out n v (lt-suc_self n), drop-cons out n 0 h) (append_assoc (take n out) (v ∷ []) _)

-- the pieces from a place on
module _ (n : ℕ) (out s : List ℕ) (p : ℕ) where
  pub written_out : length s ≤ p → out ≡ written n out (walk 0 (drop p s)).bytes
  written_out h = written_end n out _ (ap (λ (w : Walk). w.bytes) (walk_out s p h))

  module _ (h : p < length s) where
    pub written_quote : get_or s p 0 ≡ 34 → out ≡ written n out (walk 0 (drop p s)).bytes
    written_quote e = written_end n out _ (ap (λ (w : Walk). w.bytes) (walk_quote s p h e))

    pub written_broken : get_or s p 0 ≡ 92 → (x : Broken) → ends (broken_at x) ≡ escape_of (take (length s - (p + 1)) (drop (p + 1) s)) → out ≡ written n out (walk 0 (drop p s)).bytes
    written_broken b x e = written_end n out _ (ap (λ (w : Walk). w.bytes) (walk_ends s p h b (broken_at x) e))

    module _ (l : n < length out) where
      pub written_plain : (get_or s p 0 ≡ 34 → ⊥) → (get_or s p 0 ≡ 92 → ⊥)
          → written (n + 1) (set out n (get_or s p 0)) (walk 0 (drop (p + 1) s)).bytes ≡ written n out (walk 0 (drop p s)).bytes
      written_plain e f = written_more n out _ _ l ∙ ap (λ (w : Walk). written n out w.bytes) (sym (walk_plain s p h e f))

      pub written_byte : get_or s p 0 ≡ 92 → (x : Escaped) → byte x.byte x.size ≡ escape_of (take (length s - (p + 1)) (drop (p + 1) s))
          → written (n + 1) (set out n x.byte) (walk 0 (drop (p + x.size) s)).bytes ≡ written n out (walk 0 (drop p s)).bytes
      written_byte b x e = written_more n out _ _ l ∙ ap (λ (w : Walk). written n out w.bytes) (sym (walk_byte s p h b _ _ e))

pub ruleset writes = (written_start, written_full, written_out, written_quote, written_plain, written_byte, set-get_or)

pub overlay_fits : (bs out : List ℕ) → length bs ≤ length out → overlay bs out ≡ bs ++ drop (length bs) out
unfolding overlay
overlay_fits [] out h = refl
overlay_fits (b ∷ bs) [] h = absurd (not-suc-le-zero h)
overlay_fits (b ∷ bs) (x ∷ out) h = ap (λ (l : List ℕ). b ∷ l) (overlay_fits bs out (le_of_suc-le-suc h))

pub ruleset counts = (closed_measures, overlay_fits)
