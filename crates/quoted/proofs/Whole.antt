-- The end of a string by one walk over its pieces. Behind the byte that its backslash hides an escape takes digits and `+` alone, so the
-- pieces end at the closing quote that hidden bytes leave.
use mathlib.Core.Path.{◌≡◌, refl, sym, ap, ap₂, ◌∙◌}
use mathlib.Core.Bool.{Bool, true, false, ◌||◌}
use mathlib.Core.List.{List, [], ◌∷◌}
use Prim.Native.Nat.{ℕ, ◌+◌, ◌*◌, ◌-◌, ◌≤◌, ◌<◌}
use native.Mathlib.Omega.{arith}
use borrow.Author.Tests.{eqb-true, eqb-false, ne_eqb}
use lib.Dec.{eqb, leb}
use lib.ListN.{length, get_or, drop, take, length-drop}
use lib.Seq.{drop-drop, take_all}
use Rattle.refusal.specs.Paper.{pick}
use Rattle.token.specs.Ends.{end_of}
use Rattle.marks.specs.Classes.{is_quote}
use Rattle.search.specs.First.{first_from}
use Rattle.search.proofs.Laws.{first_found, same_at_first}
use Rattle.pieces.specs.Bytes.{hex_digit, octal_digit, is_hex, is_octal}
use Rattle.pieces.specs.Pieces.{End, closed, bad_hex, cut, Piece, byte, ends, hex_of, third_of, octal_of, escape_of, Walk, walk}
use Rattle.quoted.specs.Quoted.{Closing, closes_at, unclosed, closing, hidden, closed_as, quoted_at}
use Rattle.quoted.specs.Inside.{whole_by, whole_from}
use Rattle.pieces.proofs.Sizes.{escape_size}
use Rattle.std.specs.Prelude.{Some, None}
use Rattle.pieces.specs.declared.Escaped.{Escaped}
use Rattle.pieces.specs.declared.Broken.{Broken}
use Rattle.pieces.specs.declared.Broken.TheVariants.{Cut, Bad}
use Rattle.pieces.specs.Answers.{broken_at}
use Rattle.pieces.proofs.Walks.{walk_out, walk_quote, walk_plain, walk_byte, walk_ends}
use Rattle.quoted.proofs.Places.{close_quote, close_plain, close_escape}
use Rattle.quoted.proofs.Answers.{within}

no : true ≡ false → ⊥
no e = cc

-- ---- a byte that an escape takes is neither a quote nor a backslash
abbrev Plain : ℕ → Type 0
Plain b = (b ≡ 34 → ⊥) × (b ≡ 92 → ⊥)

octal_plain : (b : ℕ) → is_octal b ≡ true → Plain b
unfolding octal_digit
octal_plain b h = (λ e. no (sym h ∙ ap is_octal e), λ e. no (sym h ∙ ap is_octal e))

hex_plain : (b : ℕ) → is_hex b ≡ true → Plain b
unfolding hex_digit
hex_plain b h = (λ e. no (sym h ∙ ap is_hex e), λ e. no (sym h ∙ ap is_hex e))

plus_plain : (b : ℕ) → eqb b 43 ≡ true → Plain b
plus_plain b h = let e = eqb-true b 43 h in (λ f. omega arith, λ f. omega arith)

-- ---- the byte c is hidden by a backslash at the place p, and l stands behind it
abbrev Hides : ℕ → ℕ → List ℕ → Piece → Type 0
Hides p c l (byte v k) = closing (p + 2) l ≡ closing (p + k) (drop (k - 1) (c ∷ l))
Hides p c l (ends e) = Unit

either_hides : (p c : ℕ) (l : List ℕ) (t : Bool) (x y : Piece) → Hides p c l x → Hides p c l y → Hides p c l (pick t x y)
either_hides p c l true x y h i = h
either_hides p c l false x y h i = i

module _ (p : ℕ) where
  one_more : (b : ℕ) (l : List ℕ) → Plain b → closing (p + 2) (b ∷ l) ≡ closing (p + 3) l
  unfolding closing
  one_more b l h = rw (ne_eqb _ _ h.0, ne_eqb _ _ h.1) (ap (λ (q : ℕ). closing q l) same)
    where
      same : p + 2 + 1 ≡ p + 3
      same = omega arith

  two_more : (a b : ℕ) (l : List ℕ) → Plain a → Plain b → closing (p + 2) (a ∷ b ∷ l) ≡ closing (p + 4) l
  unfolding closing
  two_more a b l h i = one_more a (b ∷ l) h ∙ rw (ne_eqb _ _ i.0, ne_eqb _ _ i.1) (ap (λ (q : ℕ). closing q l) same)
    where
      same : p + 3 + 1 ≡ p + 4
      same = omega arith

  octal_hides : (c v : ℕ) (l : List ℕ) → Hides p c l (octal_of v l)
  unfolding octal_of third_of
  octal_hides c v [] = refl
  octal_hides c v (a ∷ []) = go (is_octal a) refl
    where
      go : (t : Bool) → is_octal a ≡ t → Hides p c (a ∷ []) (pick t (byte (v * 8 + octal_digit a) 3) (byte v 2))
      go true e = one_more a [] (octal_plain a e)
      go false e = refl
  octal_hides c v (a ∷ (b ∷ l)) = go (is_octal a) (is_octal b) (leb ((v * 8 + octal_digit a) * 8 + octal_digit b) 255) refl refl
    where
      go : (t u w : Bool) → is_octal a ≡ t → is_octal b ≡ u
          → Hides p c (a ∷ (b ∷ l)) (pick t (pick u (pick w (byte ((v * 8 + octal_digit a) * 8 + octal_digit b) 4) (byte (v * 8 + octal_digit a) 3)) (byte (v * 8 + octal_digit a) 3)) (byte v 2))
      go true true true e f = two_more a b l (octal_plain a e) (octal_plain b f)
      go true true false e f = one_more a (b ∷ l) (octal_plain a e)
      go true false w e f = one_more a (b ∷ l) (octal_plain a e)
      go false u w e f = refl

  hex_hides : (c : ℕ) (l : List ℕ) → Hides p c l (hex_of l)
  unfolding hex_of
  hex_hides c [] = tt
  hex_hides c (a ∷ []) = tt
  hex_hides c (a ∷ (b ∷ l)) = go (is_hex b) (is_hex a) (eqb a 43) refl refl refl
    where
      go : (t u w : Bool) → is_hex b ≡ t → is_hex a ≡ u → eqb a 43 ≡ w
          → Hides p c (a ∷ (b ∷ l)) (pick t (pick u (byte (hex_digit a * 16 + hex_digit b) 4) (pick w (byte (hex_digit b) 4) (ends bad_hex))) (ends bad_hex))
      go true true w e f g = two_more a b l (hex_plain a f) (hex_plain b e)
      go true false true e f g = two_more a b l (plus_plain a g) (hex_plain b e)
      go true false false e f g = tt
      go false u w e f g = tt

  escape_hides : (c : ℕ) (l : List ℕ) → Hides p c l (escape_of (c ∷ l))
  unfolding escape_of
  escape_hides c l =
      either_hides p c l (eqb c 0x6E) _ _ refl
      (either_hides p c l (eqb c 0x72) _ _ refl
      (either_hides p c l (eqb c 0x74) _ _ refl
      (either_hides p c l (eqb c 0x78) _ _ (hex_hides c l)
      (either_hides p c l (is_octal c) _ _ (octal_hides c (octal_digit c) l) refl))))

  -- an escape that is whole leaves the closing quote as it was
  escape_keeps : (l : List ℕ) (v k : ℕ) → escape_of l ≡ byte v k → hidden (p + 1) l ≡ closing (p + k) (drop (k - 1) l)
  unfolding closing escape_of
  escape_keeps [] v k e = cc
  escape_keeps (c ∷ l) v k e = ap (λ (q : ℕ). closing q l) same ∙ (rw e at (escape_hides c l))
    where
      same : p + 1 + 1 ≡ p + 2
      same = omega arith

other_quote : (b : ℕ) → is_quote b ≡ true → (b ≡ 34 → ⊥) → b ≡ 92
unfolding is_quote
other_quote b e n = go (eqb b 34) (eqb b 92) refl refl e
  where
    go : (t u : Bool) → eqb b 34 ≡ t → eqb b 92 ≡ u → (t || u) ≡ true → b ≡ 92
    go true u f g e = absurd (n (eqb-true b 34 f))
    go false true f g e = eqb-true b 92 g
    go false false f g e = absurd (no (sym e))

-- ---- the end from a place, by what stands there
module _ (s : List ℕ) (p : ℕ) where
  pub whole_out : length s ≤ p → None ≡ whole_from s p
  unfolding whole_from
  whole_out h = rw (walk_out s p h)

  module _ (h : p < length s) where
    pub whole_quote : get_or s p 0 ≡ 34 → Some (p + 1) ≡ whole_from s p
    unfolding whole_from
    whole_quote e = rw (walk_quote s p h e, ← close_quote s p h e)

    whole_plain : (get_or s p 0 ≡ 34 → ⊥) → (get_or s p 0 ≡ 92 → ⊥) → whole_from s p ≡ whole_from s (p + 1)
    unfolding whole_from
    whole_plain m n = ap₂ whole_by (ap (λ (w : Walk). w.end) (walk_plain s p h m n)) (sym (close_plain s p h m n))

    -- a quote or a backslash stands there, and no quote: an escape that is broken, and one that is whole
    module _ (i : is_quote (get_or s p 0) ≡ true) (n : get_or s p 0 ≡ 34 → ⊥) where
      there : get_or s p 0 ≡ 92
      there = other_quote _ i n

      pub whole_broken : (x : Broken) → ends (broken_at x) ≡ escape_of (take (length s - (p + 1)) (drop (p + 1) s)) → None ≡ whole_from s p
      unfolding whole_from
      whole_broken x e = none x ∙ ap (λ (w : Walk). whole_by w.end (closing p (drop p s))) (sym (walk_ends s p h there (broken_at x) e))
        where
          none : (x : Broken) → None ≡ whole_by (broken_at x) (closing p (drop p s))
          none Cut = refl
          none Bad = refl

      pub whole_byte : (x : Escaped) → byte x.byte x.size ≡ escape_of (take (length s - (p + 1)) (drop (p + 1) s)) → whole_from s (p + x.size) ≡ whole_from s p
      unfolding whole_from
      whole_byte x e = sym (ap₂ whole_by (ap (λ (w : Walk). w.end) (walk_byte s p h there _ _ e)) close_byte)
        where
          rest : take (length s - (p + 1)) (drop (p + 1) s) ≡ drop (p + 1) s
          rest = take_all (length s - (p + 1)) (drop (p + 1) s) (rw length-drop (omega arith))

          same : p + 1 + (x.size - 1) ≡ p + x.size
          same = omega (arith, (escape_size _ _ _ e).0)

          close_byte : closing p (drop p s) ≡ closing (p + x.size) (drop (p + x.size) s)
          close_byte =
              close_escape s p h there ∙ escape_keeps p (drop (p + 1) s) _ _ (sym (e ∙ ap escape_of rest))
              ∙ ap (closing (p + x.size)) (drop-drop (x.size - 1) (p + 1) s ∙ ap (λ (n : ℕ). drop n s) same)

-- the bytes before the next quote or backslash change nothing
pub whole_jump : (s : List ℕ) (p : ℕ) → whole_from s p ≡ whole_from s (first_from is_quote s p)
unfolding is_quote
whole_jump s = same_at_first is_quote s (whole_from s) (λ p h e. whole_plain s p h (eqb-false _ _ (left (eqb (get_or s p 0) 34) (eqb (get_or s p 0) 92) e)) (eqb-false _ _ (right (eqb (get_or s p 0) 34) (eqb (get_or s p 0) 92) e)))
  where
    left : (t u : Bool) → (t || u) ≡ false → t ≡ false
    left true u e = e
    left false u e = refl

    right : (t u : Bool) → (t || u) ≡ false → u ≡ false
    right true u e = absurd (no e)
    right false u e = e

-- a quote or a backslash stands at the place found
pub found_quote : (s : List ℕ) (p q : ℕ) → q ≡ first_from is_quote s p → q < length s → is_quote (get_or s q 0) ≡ true
found_quote s p q e h = ap (λ (x : ℕ). is_quote (get_or s x 0)) e ∙ first_found is_quote s p (omega arith)

-- the end of the quoted string at a place
pub whole_end : (s : List ℕ) (at : ℕ) → at < length s → whole_from s (at + 1) ≡ end_of (quoted_at s at)
unfolding whole_from
whole_end s at h = go (walk 0 (drop (at + 1) s)).end (closing (at + 1) (drop (at + 1) s)) refl ∙ sym (ap end_of (within s at h))
  where
    go : (x : End) (c : Closing) → (walk 0 (drop (at + 1) s)).end ≡ x → whole_by x c ≡ end_of (closed_as s at c)
    go closed (closes_at q) e = rw e
    go closed unclosed e = refl
    go bad_hex (closes_at q) e = rw e
    go bad_hex unclosed e = refl
    go cut (closes_at q) e = rw e
    go cut unclosed e = refl

pub ruleset walked = (whole_out, whole_quote, whole_byte, whole_jump, found_quote)
