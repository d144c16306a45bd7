-- The pieces of a list by place: what holds from a place holds from the next, and what a measure tells.
use mathlib.Core.Path.{◌≡◌, refl, sym, ap, ◌∙◌}
use mathlib.Core.List.{List, [], ◌∷◌}
use Prim.Native.Nat.{ℕ, zero, suc, ◌+◌, ◌-◌, ◌≤◌, ◌<◌}
use native.Mathlib.Nat.{zero-add}
use native.Mathlib.Omega.{arith}
use borrow.Author.Tests.{ne_eqb}
use lib.ListN.{length, get_or, drop, take, drop_of_length-le, length-drop}
use lib.Seq.{drop-drop, take_all}
use Rattle.std.specs.Prelude.{Result, Ok, Err}
use Rattle.std.proofs.lemmas.List.{drop_more}
use Rattle.pieces.specs.Pieces.{End, closed, bad_hex, cut, Piece, byte, ends, escape_of, piece_of, Walk, giving, onward, walk}
use Rattle.pieces.specs.Answers.{broken_at, measured_as, measure_of}
use Rattle.pieces.specs.declared.Escaped.{Escaped}
use Rattle.pieces.specs.declared.Broken.{Broken}
use Rattle.pieces.specs.declared.Broken.TheVariants.{Cut, Bad}
use Rattle.pieces.proofs.Sizes.{escape_size}

-- the bytes that are passed over
pub walk_skip : (n : ℕ) (l : List ℕ) → walk n l ≡ walk 0 (drop n l)
unfolding walk
walk_skip zero l = refl
walk_skip (suc n) [] = refl
walk_skip (suc n) (b ∷ l) = walk_skip n l

-- the end of the bytes, or a piece that is an end
abbrev pub ending : End → Walk
ending e = record { bytes = []; end = e }

-- a piece at the front of a list
module _ (b : ℕ) (l : List ℕ) where
  pub walk_quote_cons : b ≡ 34 → walk 0 (b ∷ l) ≡ ending closed
  unfolding walk piece_of
  walk_quote_cons e = rw e

  pub walk_escape_cons : b ≡ 92 → walk 0 (b ∷ l) ≡ onward (escape_of l) (λ n. walk n l)
  unfolding walk piece_of
  walk_escape_cons e = rw e

  pub walk_plain_cons : (b ≡ 34 → ⊥) → (b ≡ 92 → ⊥) → walk 0 (b ∷ l) ≡ giving b (walk 0 l)
  unfolding walk piece_of
  walk_plain_cons m n = rw (ne_eqb _ _ m, ne_eqb _ _ n)

module _ (s : List ℕ) (p : ℕ) where
  pub walk_out : length s ≤ p → walk 0 (drop p s) ≡ ending cut
  unfolding walk
  walk_out h = rw (drop_of_length-le s h)

  module _ (h : p < length s) where
    pub walk_quote : get_or s p 0 ≡ 34 → walk 0 (drop p s) ≡ ending closed
    walk_quote e = ap (walk 0) (drop_more s p 0 h) ∙ walk_quote_cons _ _ e

    pub walk_plain : (get_or s p 0 ≡ 34 → ⊥) → (get_or s p 0 ≡ 92 → ⊥) → walk 0 (drop p s) ≡ giving (get_or s p 0) (walk 0 (drop (p + 1) s))
    walk_plain m n = ap (walk 0) (drop_more s p 0 h) ∙ walk_plain_cons _ _ m n

    -- an escape, as the piece that reading the part behind its backslash answers
    module _ (b : get_or s p 0 ≡ 92) where
      walk_escape : (k : Piece) → k ≡ escape_of (take (length s - (p + 1)) (drop (p + 1) s)) → walk 0 (drop p s) ≡ onward k (λ n. walk n (drop (p + 1) s))
      walk_escape k e =
          ap (walk 0) (drop_more s p 0 h) ∙ walk_escape_cons _ _ b ∙
          ap (λ (x : Piece). onward x (λ n. walk n (drop (p + 1) s))) (sym (e ∙ ap escape_of (take_all _ (drop (p + 1) s) (rw length-drop (omega arith)))))

      pub walk_byte : (v k : ℕ) → byte v k ≡ escape_of (take (length s - (p + 1)) (drop (p + 1) s)) → walk 0 (drop p s) ≡ giving v (walk 0 (drop (p + k) s))
      walk_byte v k e =
          walk_escape _ e ∙
          ap (giving v) (walk_skip (k - 1) (drop (p + 1) s) ∙ ap (walk 0) (drop-drop (k - 1) (p + 1) s ∙ ap (λ (n : ℕ). drop n s) same))
        where
          same : p + 1 + (k - 1) ≡ p + k
          same = omega (arith, (escape_size _ v k e).0)

      pub walk_ends : (x : End) → ends x ≡ escape_of (take (length s - (p + 1)) (drop (p + 1) s)) → walk 0 (drop p s) ≡ ending x
      walk_ends x e = walk_escape _ e

-- what the bytes of a walk after n others measure
unfoldable pub after : ℕ → Walk → Result ℕ Broken
after n w = measured_as w.end (n + length w.bytes)

pub after_none : (w : Walk) → after 0 w ≡ measure_of w
unfolding after measure_of
after_none w = ap (measured_as w.end) (zero-add (length w.bytes))

-- one byte more
after_more : (n v : ℕ) (w : Walk) → after (n + 1) w ≡ after n (giving v w)
unfolding after
after_more n v w = ap (measured_as w.end) (omega arith)

-- no byte more
after_ends : (n : ℕ) (x : End) → measured_as x n ≡ after n (ending x)
unfolding after
after_ends n x = ap (measured_as x) (omega arith)

broken : (b : Broken) (n : ℕ) → Err b ≡ measured_as (broken_at b) n
broken Cut n = refl
broken Bad n = refl

-- the same of the walk from a place on
module _ (n : ℕ) (s : List ℕ) (p : ℕ) where
  pub after_out : length s ≤ p → Err Cut ≡ after n (walk 0 (drop p s))
  after_out h = after_ends n cut ∙ ap (after n) (sym (walk_out s p h))

  module _ (h : p < length s) where
    pub after_quote : get_or s p 0 ≡ 34 → Ok n ≡ after n (walk 0 (drop p s))
    after_quote e = after_ends n closed ∙ ap (after n) (sym (walk_quote s p h e))

    pub after_plain : (get_or s p 0 ≡ 34 → ⊥) → (get_or s p 0 ≡ 92 → ⊥) → after (n + 1) (walk 0 (drop (p + 1) s)) ≡ after n (walk 0 (drop p s))
    after_plain e f = after_more n _ _ ∙ ap (after n) (sym (walk_plain s p h e f))

    module _ (e : get_or s p 0 ≡ 92) where
      pub after_byte : (x : Escaped) → byte x.byte x.size ≡ escape_of (take (length s - (p + 1)) (drop (p + 1) s)) → after (n + 1) (walk 0 (drop (p + x.size) s)) ≡ after n (walk 0 (drop p s))
      after_byte x f = after_more n _ _ ∙ ap (after n) (sym (walk_byte s p h e _ _ f))

      pub after_broken : (b : Broken) → ends (broken_at b) ≡ escape_of (take (length s - (p + 1)) (drop (p + 1) s)) → Err b ≡ after n (walk 0 (drop p s))
      after_broken b f = broken b n ∙ after_ends n (broken_at b) ∙ ap (after n) (sym (walk_ends s p h e (broken_at b) f))

pub ruleset measured = (after_none, after_out, after_quote, after_plain, after_byte, after_broken)

-- what a measure tells of the end and of the bytes
module _ (w : Walk) where
  pub told_closed : (n : ℕ) → Ok n ≡ measure_of w → (w.end ≡ closed) × (n ≡ length w.bytes)
  unfolding measure_of
  told_closed n e = go w.end e
    where
      go : (x : End) → Ok n ≡ measured_as x (length w.bytes) → (x ≡ closed) × (n ≡ length w.bytes)
      go closed f = (refl, cc)
      go bad_hex f = cc
      go cut f = cc

  pub told_broken : (b : Broken) → Err b ≡ measure_of w → w.end ≡ broken_at b
  unfolding measure_of
  told_broken b e = go b w.end e
    where
      go : (b : Broken) (x : End) → Err b ≡ measured_as x (length w.bytes) → x ≡ broken_at b
      go b closed f = cc
      go Cut bad_hex f = cc
      go Cut cut f = refl
      go Bad bad_hex f = refl
      go Bad cut f = cc

  pub closed_measures : w.end ≡ closed → measure_of w ≡ Ok (length w.bytes)
  unfolding measure_of
  closed_measures e = ap (λ (x : End). measured_as x (length w.bytes)) e
