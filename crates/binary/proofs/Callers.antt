-- What a caller may rely on: a token starts at its place, ends behind it and within the bytes; a refusal carries the place; and unless
-- the answer is "more", bytes behind change nothing. Assumes nothing.
use mathlib.Core.Path.{◌≡◌, refl, sym, ap, ◌∙◌}
use mathlib.Core.Logic.{⊎_elim}
use mathlib.Core.Bool.{Bool, true, false}
use mathlib.Core.List.{List, ◌++◌}
use Prim.Native.Nat.{ℕ, suc, ◌+◌, ◌-◌, ◌≤◌, ◌<◌}
use native.Mathlib.Omega.{arith}
use lib.Dec.{eqb, ltb, lit≤}
use lib.ListN.{length, get_or, length-append, get_or-append}
use lib.IntN.{ℤ, pos, negsuc}
use lib.Ieee.{binary64, of_bits}
use borrow.Author.Tests.{lt-ltb, le-ltb, ltb-false}
use Rattle.refusal.specs.Paper.{Paper, gives, more, refused, Got, got, Spot, spot, pick}
use Rattle.refusal.proofs.Cases.{either}
use Rattle.varint.specs.Varint.{uvarint_at}
use Rattle.zigzag.specs.Zigzag.{signed}
use Rattle.varint.specs.Signed.{signed_answer, varint_at}
use Rattle.varint.proofs.Round.{within, refused_number}
use Rattle.varint.proofs.Extend.{settled_at}
use Rattle.token.specs.declared.Token.{Token}
use Rattle.token.specs.declared.Token.TheVariants.{String, Int64, Uint64, Double, Boolean}
use Rattle.token.specs.Marks.{mark_of}
use Rattle.word.proofs.Bytes.{word_same}
use Rattle.token.proofs.Sound.{Sound, pick_sound, one_sound, mark_sound}
use Rattle.binary.specs.Little.{little8}
use Rattle.binary.specs.Binary.{of_size, of_length, of_varint, double_at, marked, binary_from}
use Rattle.binary.proofs.Laws.{ended, inside}

-- ---- a token lies within the bytes, and a refusal stands at its place

module _ (s : List ℕ) (at : ℕ) (h : at < length s) where
  fits : (t : Token) (q : Bool) (left need next : ℕ) → ltb left need ≡ q → (need ≤ left → (at < next) × (next ≤ length s))
      → Sound (length s) at (pick q more (gives (spot t at next)))
  fits t true left need next e f = tt
  fits t false left need next e f = let g = f (ltb-false left need e) in (refl, g.0, g.1)

  size_sound : (n : ℕ) → at < n → n ≤ length s → (z : ℤ) → Sound (length s) at (of_size s at n z)
  size_sound n p q (pos k) = fits (String n k) (ltb (length s - n) k) (length s - n) k (n + k) refl (λ g. (omega arith, omega arith))
  size_sound n p q (negsuc k) = (lit≤ tt, lit≤ tt, refl)

  string_sound : (p : Paper (Got ℕ)) → uvarint_at s (at + 1) ≡ p → Sound (length s) at (of_length s at (signed_answer p))
  string_sound (gives (got v n)) e = let w = within s (at + 1) v n e in size_sound n (omega arith) w.1 (signed v)
  string_sound more e = tt
  string_sound (refused n vs) e = let w = refused_number s (at + 1) n vs (omega arith) e in (w.0, omega arith, refl)

  int64_sound : (p : Paper (Got ℕ)) → uvarint_at s (at + 1) ≡ p → Sound (length s) at (of_varint at Int64 (signed_answer p))
  int64_sound (gives (got v n)) e = let w = within s (at + 1) v n e in (refl, omega arith, w.1)
  int64_sound more e = tt
  int64_sound (refused n vs) e = let w = refused_number s (at + 1) n vs (omega arith) e in (w.0, omega arith, refl)

  uint64_sound : (p : Paper (Got ℕ)) → uvarint_at s (at + 1) ≡ p → Sound (length s) at (of_varint at Uint64 p)
  uint64_sound (gives (got v n)) e = let w = within s (at + 1) v n e in (refl, omega arith, w.1)
  uint64_sound more e = tt
  uint64_sound (refused n vs) e = let w = refused_number s (at + 1) n vs (omega arith) e in (w.0, omega arith, refl)

  double_sound : Sound (length s) at (double_at s at)
  unfolding double_at
  double_sound =
      fits (Double (of_bits binary64 (little8 s (at + 1))) (little8 s (at + 1))) (ltb (length s - at) 9) (length s - at) 9 (at + 9) refl
      (λ g. (omega arith, omega arith))

  marked_sound : (b : ℕ) → Sound (length s) at (marked s at b)
  unfolding marked varint_at
  marked_sound b =
      pick_sound (length s) at (eqb b 1) _ _ (string_sound (uvarint_at s (at + 1)) refl)
      (pick_sound (length s) at (eqb b 2) _ _ (int64_sound (uvarint_at s (at + 1)) refl)
      (pick_sound (length s) at (eqb b 3) _ _ double_sound
      (pick_sound (length s) at (eqb b 4) _ _ (one_sound (length s) at h (Boolean false))
      (pick_sound (length s) at (eqb b 5) _ _ (one_sound (length s) at h (Boolean true))
      (pick_sound (length s) at (eqb b 6) _ _ (uint64_sound (uvarint_at s (at + 1)) refl) (mark_sound (length s) at h (mark_of b)))))))

pub sound : (s : List ℕ) (at : ℕ) → Sound (length s) at (binary_from s at)
sound s at =
    ⊎_elim (λ h. rw (inside s at h) (marked_sound s at h (get_or s at 0))) (λ h. rw (ended s at (omega arith)) tt) (either (suc at) (length s))

-- ---- settled

-- one answer is the other's, unless that is "more"
abbrev Kept : {A : Type 0} → Paper A → Paper A → Type 0
Kept p q = (p ≡ more → ⊥) → q ≡ p

same : {A : Type 0} (p q : Paper A) → q ≡ p → Kept p q
same p q e f = e

pick_kept : (q : Bool) (a b x y : Paper (Spot Token)) → Kept a x → Kept b y → Kept (pick q a b) (pick q x y)
pick_kept true a b x y f g = f
pick_kept false a b x y f g = g

-- through a function that keeps "more"
through : {A B : Type 0} (f g : Paper A → Paper B) (p q : Paper A) → f more ≡ more → Kept p q → ((p ≡ more → ⊥) → Kept (f p) (g p)) → Kept (f p) (g q)
through f g p q m k l n =
    let no : p ≡ more → ⊥ = λ e. n (ap f e ∙ m) in
    ap g (k no) ∙ l no n

module _ (s u : List ℕ) (at : ℕ) (h : at < length s) where
  longer : length s ≤ length (s ++ u)
  longer = omega (arith, length-append s u)

  fits_kept : (x : Paper (Spot Token)) (left more_left need : ℕ) → left ≤ more_left → Kept (pick (ltb left need) more x) (pick (ltb more_left need) more x)
  fits_kept x left more_left need g f =
      ⊎_elim (λ k. rw (le-ltb left need k, le-ltb more_left need (omega arith))) (λ k. absurd (f (rw (lt-ltb left need k)))) (either need left)

  size_kept : (n : ℕ) (z : ℤ) → Kept (of_size s at n z) (of_size (s ++ u) at n z)
  size_kept n (pos k) = fits_kept (gives (spot (String n k) at (n + k))) (length s - n) (length (s ++ u) - n) k (omega (arith, longer))
  size_kept n (negsuc k) = same _ _ refl

  varint_kept : Kept (uvarint_at s (at + 1)) (uvarint_at (s ++ u) (at + 1))
  varint_kept f = settled_at s u (at + 1) (omega arith) f

  length_kept : (p : Paper (Got ℕ)) → Kept (of_length s at (signed_answer p)) (of_length (s ++ u) at (signed_answer p))
  length_kept (gives (got v n)) = size_kept n (signed v)
  length_kept more = same _ _ refl
  length_kept (refused n vs) = same _ _ refl

  string_kept : Kept (of_length s at (varint_at s (at + 1))) (of_length (s ++ u) at (varint_at (s ++ u) (at + 1)))
  unfolding varint_at
  string_kept =
      through (λ p. of_length s at (signed_answer p)) (λ p. of_length (s ++ u) at (signed_answer p)) (uvarint_at s (at + 1)) (uvarint_at (s ++ u) (at + 1)) refl varint_kept
      (λ n. length_kept (uvarint_at s (at + 1)))

  int64_kept : Kept (of_varint at Int64 (varint_at s (at + 1))) (of_varint at Int64 (varint_at (s ++ u) (at + 1)))
  unfolding varint_at
  int64_kept =
      through (λ p. of_varint at Int64 (signed_answer p)) (λ p. of_varint at Int64 (signed_answer p)) (uvarint_at s (at + 1)) (uvarint_at (s ++ u) (at + 1)) refl varint_kept
      (λ n. same _ _ refl)

  uint64_kept : Kept (of_varint at Uint64 (uvarint_at s (at + 1))) (of_varint at Uint64 (uvarint_at (s ++ u) (at + 1)))
  uint64_kept =
      through (of_varint at Uint64) (of_varint at Uint64) (uvarint_at s (at + 1)) (uvarint_at (s ++ u) (at + 1)) refl varint_kept (λ n. same _ _ refl)

  eight : 9 ≤ length s - at → little8 (s ++ u) (at + 1) ≡ little8 s (at + 1)
  eight k = word_same (s ++ u) s 8 (at + 1) (λ i l. get_or-append s u 0 (at + 1 + i) (omega arith))

  double_kept : Kept (double_at s at) (double_at (s ++ u) at)
  unfolding double_at
  double_kept f =
      let l = longer in
      ⊎_elim
      (λ k. rw (le-ltb (length s - at) 9 k, le-ltb (length (s ++ u) - at) 9 (omega arith), eight k))
      (λ k. absurd (f (rw (lt-ltb (length s - at) 9 k))))
      (either 9 (length s - at))

  marked_kept : (b : ℕ) → Kept (marked s at b) (marked (s ++ u) at b)
  unfolding marked
  marked_kept b =
      pick_kept (eqb b 1) _ _ _ _ string_kept
      (pick_kept (eqb b 2) _ _ _ _ int64_kept
      (pick_kept (eqb b 3) _ _ _ _ double_kept
      (pick_kept (eqb b 4) _ _ _ _ (same _ _ refl)
      (pick_kept (eqb b 5) _ _ _ _ (same _ _ refl)
      (pick_kept (eqb b 6) _ _ _ _ uint64_kept (same _ _ refl))))))

pub settled : (s u : List ℕ) (at : ℕ) → at ≤ length s → (binary_from s at ≡ more → ⊥) → binary_from (s ++ u) at ≡ binary_from s at
settled s u at h f =
    ⊎_elim
    (λ k.
    inside (s ++ u) at (omega (arith, length-append s u)) ∙ ap (marked (s ++ u) at) (get_or-append s u 0 at k)
    ∙ marked_kept s u at k (get_or s at 0) (λ e. f (inside s at k ∙ e)) ∙ sym (inside s at k))
    (λ k. absurd (f (ended s at (omega arith))))
    (either (suc at) (length s))
