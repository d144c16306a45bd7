-- A whole token's kind is told by its first byte. Assumes nothing.
use mathlib.Core.Path.{◌≡◌, refl, sym, ap, ◌∙◌}
use mathlib.Core.Bool.{Bool, true, false}
use mathlib.Core.List.{List}
use Prim.Native.Nat.{ℕ, ◌+◌, ◌-◌, ◌≤◌, ◌<◌}
use native.Mathlib.Omega.{arith}
use lib.Dec.{eqb, ltb}
use lib.IntN.{ℤ, pos, negsuc}
use lib.Ieee.{binary64, of_bits}
use lib.ListN.{length, get_or}
use borrow.Author.Tests.{eqb-true}
use Rattle.refusal.specs.Paper.{Paper, gives, more, refused, Got, got, Spot, spot, pick}
use Rattle.refusal.specs.declared.Format.TheVariants.{Binary}
use Rattle.varint.specs.Varint.{uvarint_at}
use Rattle.varint.specs.Signed.{varint_at}
use Rattle.token.specs.declared.Token.{Token}
use Rattle.token.specs.declared.Token.TheVariants as token
use Rattle.token.specs.declared.Kind.{Kind}
use Rattle.token.specs.declared.Kind.TheVariants.{Text, Scalar}
use Rattle.std.specs.Prelude.{Option}
use Rattle.token.specs.Meaning.{kind_of, kinds_of}
use Rattle.token.specs.Marks.{mark_of, of_mark}
use Rattle.token.specs.Ends.{end_of}
use Rattle.binary.specs.Little.{little8}
use Rattle.binary.specs.Binary.{of_size, of_length, of_varint, double_at, marked, binary_from}
use Rattle.binary.proofs.Laws.{inside}
use Rattle.lexer.specs.Lexer.{token_from, kind_at}
use Rattle.lexer.proofs.Laws.{grows, first_is, skip_binary}
use Rattle.blocks.specs.Moves.{kind_by}

-- by the test of a pick
pub pick_case : {A : Type 0} (P : A → Type 0) (t : Bool) (x y : A) → (t ≡ true → P x) → (t ≡ false → P y) → P (pick t x y)
pick_case P true x y f g = f refl
pick_case P false x y f g = g refl

-- ---- the kind of a token, by the byte at its place

-- an answer's kind is k, if it is a token
abbrev Kindly : Kind → Paper (Spot Token) → Type 0
Kindly k (gives (spot t first next)) = kind_of t ≡ k
Kindly k more = Unit {0}
Kindly k (refused n vs) = Unit {0}

module _ (s : List ℕ) (at : ℕ) where
  size_kindly : (n : ℕ) (z : ℤ) → Kindly Text (of_size s at n z)
  size_kindly n (pos k) = pick_case (Kindly Text) (ltb (length s - n) k) more (gives (spot (token.String n k) at (n + k))) (λ _. tt) (λ _. refl)
  size_kindly n (negsuc k) = tt

  length_kindly : (p : Paper (Got ℤ)) → Kindly Text (of_length s at p)
  length_kindly (gives (got z n)) = size_kindly n z
  length_kindly more = tt
  length_kindly (refused n vs) = tt

  int64_kindly : (p : Paper (Got ℤ)) → Kindly Scalar (of_varint at token.Int64 p)
  int64_kindly (gives (got z n)) = refl
  int64_kindly more = tt
  int64_kindly (refused n vs) = tt

  uint64_kindly : (p : Paper (Got ℕ)) → Kindly Scalar (of_varint at token.Uint64 p)
  uint64_kindly (gives (got z n)) = refl
  uint64_kindly more = tt
  uint64_kindly (refused n vs) = tt

  double_kindly : Kindly Scalar (double_at s at)
  unfolding double_at
  double_kindly =
      pick_case (Kindly Scalar) (ltb (length s - at) 9) more (gives (spot (token.Double (of_bits binary64 (little8 s (at + 1))) (little8 s (at + 1))) at (at + 9))) (λ _. tt) (λ _. refl)

  by_kind : (b : ℕ) (k : Kind) (p : Paper (Spot Token)) → kind_by b ≡ k → Kindly k p → Kindly (kind_by b) p
  by_kind b k p e h = rw e h

  is : (b c : ℕ) → eqb b c ≡ true → kind_by b ≡ kind_by c
  is b c e = ap kind_by (eqb-true b c e)

  abbrev Marked : ℕ → Option Token → Type 0
  Marked b m = Kindly (kind_by b) (of_mark at m)

  mark_kindly : (b : ℕ) → Marked b (mark_of b)
  unfolding mark_of kind_by
  mark_kindly b =
      pick_case (Marked b) (eqb b 0x23) _ _ (λ e. sym (is b 0x23 e))
      λ _. pick_case (Marked b) (eqb b 0x3B) _ _ (λ e. sym (is b 0x3B e))
      λ _. pick_case (Marked b) (eqb b 0x3C) _ _ (λ e. sym (is b 0x3C e))
      λ _. pick_case (Marked b) (eqb b 0x3D) _ _ (λ e. sym (is b 0x3D e))
      λ _. pick_case (Marked b) (eqb b 0x3E) _ _ (λ e. sym (is b 0x3E e))
      λ _. pick_case (Marked b) (eqb b 0x5B) _ _ (λ e. sym (is b 0x5B e))
      λ _. pick_case (Marked b) (eqb b 0x5D) _ _ (λ e. sym (is b 0x5D e))
      λ _. pick_case (Marked b) (eqb b 0x7B) _ _ (λ e. sym (is b 0x7B e))
      λ _. pick_case (Marked b) (eqb b 0x7D) _ _ (λ e. sym (is b 0x7D e)) (λ _. tt)

  marked_kindly : (b : ℕ) → Kindly (kind_by b) (marked s at b)
  unfolding marked kind_by
  marked_kindly b =
      pick_case (Kindly (kind_by b)) (eqb b 0x01) _ _ (λ e. by_kind b Text (of_length s at (varint_at s (at + 1))) (is b 0x01 e) (length_kindly (varint_at s (at + 1))))
      λ _. pick_case (Kindly (kind_by b)) (eqb b 0x02) _ _ (λ e. by_kind b Scalar (of_varint at token.Int64 (varint_at s (at + 1))) (is b 0x02 e) (int64_kindly (varint_at s (at + 1))))
      λ _. pick_case (Kindly (kind_by b)) (eqb b 0x03) _ _ (λ e. by_kind b Scalar (double_at s at) (is b 0x03 e) double_kindly)
      λ _. pick_case (Kindly (kind_by b)) (eqb b 0x04) _ _ (λ e. sym (is b 0x04 e))
      λ _. pick_case (Kindly (kind_by b)) (eqb b 0x05) _ _ (λ e. sym (is b 0x05 e))
      λ _. pick_case (Kindly (kind_by b)) (eqb b 0x06) _ _ (λ e. by_kind b Scalar (of_varint at token.Uint64 (uvarint_at s (at + 1))) (is b 0x06 e) (uint64_kindly (uvarint_at s (at + 1))))
      (λ _. mark_kindly b)

kindly_is : (k : Kind) (p : Paper (Spot Token)) → Kindly k p → (j : Kind) (a n : ℕ) → kinds_of p ≡ gives (spot j a n) → j ≡ k
kindly_is k (gives (spot t first next)) h j a n e = let z : kind_of t ≡ j = cc in sym z ∙ h
kindly_is k more h j a n e = let z : ◌≡◌ {A = ℕ} 0 1 = cc in absurd (omega arith)
kindly_is k (refused m vs) h j a n e = let z : ◌≡◌ {A = ℕ} 0 1 = cc in absurd (omega arith)

-- a token stands at its place and has the kind of its first byte
pub token_is : (s : List ℕ) (p : ℕ) (k : Kind) (a n : ℕ) → kind_at Binary s p ≡ gives (spot k a n) → (k ≡ kind_by (get_or s p 0)) × (a ≡ p) × (p < n) × (n ≤ length s)
unfolding kind_at token_from
token_is s p k a n e =
    let g = grows Binary s p e in (
      kindly_is (kind_by (get_or s p 0)) (marked s p (get_or s p 0)) (marked_kindly s p (get_or s p 0)) k a n (sym (ap kinds_of (inside s p (omega arith))) ∙ e),
      first_is Binary s p e ∙ skip_binary s p,
      omega arith,
      g.2,
    )

ends_alike : (p : Paper (Spot Token)) → end_of p ≡ end_of (kinds_of p)
ends_alike (gives (spot t first next)) = refl
ends_alike more = refl
ends_alike (refused n vs) = refl

pub end_is : (s : List ℕ) (p : ℕ) → end_of (binary_from s p) ≡ end_of (kind_at Binary s p)
unfolding kind_at token_from
end_is s p = ends_alike (binary_from s p)
