-- A mark is read only where its byte stands. Assumes nothing.
use mathlib.Core.Path.{◌≡◌, refl, sym, ap, ◌∙◌}
use mathlib.Core.Bool.{Bool, true, false}
use mathlib.Core.List.{List}
use Prim.Native.Nat.{ℕ, ◌+◌, ◌-◌}
use native.Mathlib.Omega.{arith}
use lib.Dec.{eqb, ltb}
use lib.IntN.{ℤ, pos, negsuc}
use lib.ListN.{length}
use lib.Ieee.{binary64, of_bits}
use borrow.Author.Tests.{eqb-true}
use Rattle.refusal.specs.Paper.{Paper, gives, more, refused, Got, got, Spot, spot, pick}
use Rattle.varint.specs.Varint.{uvarint_at}
use Rattle.varint.specs.Signed.{varint_at}
use Rattle.token.specs.declared.Token.{Token}
use Rattle.token.specs.declared.Token.TheVariants.{BeginAttributes, EndAttributes, BeginList, EndList, BeginMap, EndMap, String, Int64, Uint64, Double, Boolean, Entity, KeyValueSeparator, ItemSeparator}
use Rattle.token.specs.declared.Kind.{Kind}
use Rattle.token.specs.declared.Kind.TheVariants.{Text, Scalar, OpenList, CloseList, OpenMap, CloseMap, OpenAttributes, CloseAttributes, Equals, Semicolon}
use Rattle.std.specs.Prelude.{Option, Some, None}
use Rattle.token.specs.Meaning.{kind_of, kinds_of}
use Rattle.token.specs.Marks.{mark_of, of_mark}
use Rattle.token.proofs.Ends.{holds, All}
use Rattle.binary.specs.Little.{little8}
use Rattle.binary.specs.Binary.{of_size, of_length, of_varint, double_at, marked}
use Rattle.pieces.specs.Bytes.{quote}
use Rattle.quoted.specs.Quoted.{quoted_at}
use Rattle.number.specs.Number.{number_at}
use Rattle.words.specs.Word.{word_at}
use Rattle.text.specs.Text.{percent, starts_number, starts_plain, plain_at, started}
use Rattle.text.proofs.Laws.{quoted_text, word_scalar, number_scalar}
use Rattle.lexer.specs.Lexer.{Mark, list_opens, list_closes, map_opens, map_closes, attributes_open, attributes_close, equals_stands, separator_stands}

-- the byte of a kind that is a mark; the other kinds have none of their own
byte_of : Kind → ℕ
byte_of Text = 0
byte_of Scalar = 0x23
byte_of OpenList = 0x5B
byte_of CloseList = 0x5D
byte_of OpenMap = 0x7B
byte_of CloseMap = 0x7D
byte_of OpenAttributes = 0x3C
byte_of CloseAttributes = 0x3E
byte_of Equals = 0x3D
byte_of Semicolon = 0x3B

is_mark : Kind → ℕ
is_mark Text = 0
is_mark Scalar = 0
is_mark OpenList = 1
is_mark CloseList = 1
is_mark OpenMap = 1
is_mark CloseMap = 1
is_mark OpenAttributes = 1
is_mark CloseAttributes = 1
is_mark Equals = 1
is_mark Semicolon = 1

byte_of_lem : {b : ℕ} {k : Kind} → Mark b k → byte_of k ≡ b
unfolding byte_of
byte_of_lem list_opens = refl
byte_of_lem list_closes = refl
byte_of_lem map_opens = refl
byte_of_lem map_closes = refl
byte_of_lem attributes_open = refl
byte_of_lem attributes_close = refl
byte_of_lem equals_stands = refl
byte_of_lem separator_stands = refl

is_mark_lem : {b : ℕ} {k : Kind} → Mark b k → is_mark k ≡ 1
unfolding is_mark
is_mark_lem list_opens = refl
is_mark_lem list_closes = refl
is_mark_lem map_opens = refl
is_mark_lem map_closes = refl
is_mark_lem attributes_open = refl
is_mark_lem attributes_close = refl
is_mark_lem equals_stands = refl
is_mark_lem separator_stands = refl

-- where an answer is a mark's, the byte is the mark's
abbrev pub Only : ℕ → Paper (Spot Token) → Type 0
Only b₀ p = (b : ℕ) (k : Kind) (a n : ℕ) → Mark b k → kinds_of p ≡ gives (spot k a n) → b₀ ≡ b

-- tokens of a kind that is no mark
abbrev Plainly : Paper (Spot Token) → Type 0
Plainly (gives (spot t first next)) = is_mark (kind_of t) ≡ 0
Plainly more = Unit {0}
Plainly (refused n vs) = Unit {0}

plainly : (b₀ : ℕ) (p : Paper (Spot Token)) → Plainly p → Only b₀ p
plainly b₀ (gives (spot t first next)) h b k a n m e =
    let z : kind_of t ≡ k = cc in
    absurd (omega (arith, sym h ∙ ap is_mark z ∙ is_mark_lem m))
plainly b₀ more h b k a n m e = let z : ◌≡◌ {A = ℕ} 0 1 = cc in absurd (omega arith)
plainly b₀ (refused j vs) h b k a n m e = let z : ◌≡◌ {A = ℕ} 0 1 = cc in absurd (omega arith)

all_plainly : (k : Kind) → is_mark k ≡ 0 → (p : Paper (Spot Token)) → All k p → Plainly p
all_plainly k z (gives (spot t first next)) f = ap is_mark (f t first next refl) ∙ z
all_plainly k z more f = tt
all_plainly k z (refused n vs) f = tt

-- ---- the marks themselves

module _ (b₀ at : ℕ) where
  one : (x : ℕ) (t : Token) (r : Option Token) → x ≡ byte_of (kind_of t) → Only b₀ (of_mark at r) → (q : Bool) → eqb b₀ x ≡ q → Only b₀ (of_mark at (pick q (Some t) r))
  one x t r y f true e =
      λ b k a n m g.
      let z : kind_of t ≡ k = cc in
      eqb-true b₀ x e ∙ y ∙ ap byte_of z ∙ byte_of_lem m
  one x t r y f false e = f

  none : Only b₀ (of_mark at None)
  none b k a n m e = let z : ◌≡◌ {A = ℕ} 0 1 = cc in absurd (omega arith)

  pub marks_only : Only b₀ (of_mark at (mark_of b₀))
  unfolding mark_of byte_of
  marks_only =
      one 0x23 Entity _ refl
      (one 0x3B ItemSeparator _ refl
      (one 0x3C BeginAttributes _ refl
      (one 0x3D KeyValueSeparator _ refl
      (one 0x3E EndAttributes _ refl
      (one 0x5B BeginList _ refl
      (one 0x5D EndList _ refl
      (one 0x7B BeginMap _ refl
      (one 0x7D EndMap _ refl none (eqb b₀ 0x7D) refl)
      (eqb b₀ 0x7B) refl)
      (eqb b₀ 0x5D) refl)
      (eqb b₀ 0x5B) refl)
      (eqb b₀ 0x3E) refl)
      (eqb b₀ 0x3D) refl)
      (eqb b₀ 0x3C) refl)
      (eqb b₀ 0x3B) refl)
      (eqb b₀ 0x23) refl

-- ---- binary

module _ (s : List ℕ) (at : ℕ) where
  size_plainly : (n : ℕ) (z : ℤ) → Plainly (of_size s at n z)
  unfolding is_mark
  size_plainly n (pos k) = holds Plainly (ltb (length s - n) k) more (gives (spot (String n k) at (n + k))) tt refl
  size_plainly n (negsuc k) = tt

  length_plainly : (p : Paper (Got ℤ)) → Plainly (of_length s at p)
  length_plainly (gives (got z n)) = size_plainly n z
  length_plainly more = tt
  length_plainly (refused n vs) = tt

  int64_plainly : (p : Paper (Got ℤ)) → Plainly (of_varint at Int64 p)
  unfolding is_mark
  int64_plainly (gives (got z n)) = refl
  int64_plainly more = tt
  int64_plainly (refused n vs) = tt

  uint64_plainly : (p : Paper (Got ℕ)) → Plainly (of_varint at Uint64 p)
  unfolding is_mark
  uint64_plainly (gives (got z n)) = refl
  uint64_plainly more = tt
  uint64_plainly (refused n vs) = tt

  double_plainly : Plainly (double_at s at)
  unfolding double_at is_mark
  double_plainly = holds Plainly (ltb (length s - at) 9) more (gives (spot (Double (of_bits binary64 (little8 s (at + 1))) (little8 s (at + 1))) at (at + 9))) tt refl

  pub binary_only : (b : ℕ) → Only b (marked s at b)
  unfolding marked is_mark
  binary_only b =
      holds (Only b) (eqb b 1) _ _ (plainly b (of_length s at (varint_at s (at + 1))) (length_plainly (varint_at s (at + 1))))
      (holds (Only b) (eqb b 2) _ _ (plainly b (of_varint at Int64 (varint_at s (at + 1))) (int64_plainly (varint_at s (at + 1))))
      (holds (Only b) (eqb b 3) _ _ (plainly b (double_at s at) double_plainly)
      (holds (Only b) (eqb b 4) _ _ (plainly b (gives (spot (Boolean false) at (at + 1))) refl)
      (holds (Only b) (eqb b 5) _ _ (plainly b (gives (spot (Boolean true) at (at + 1))) refl)
      (holds (Only b) (eqb b 6) _ _ (plainly b (of_varint at Uint64 (uvarint_at s (at + 1))) (uint64_plainly (uvarint_at s (at + 1)))) (marks_only b at))))))

-- ---- text

module _ (s : List ℕ) (p : ℕ) where
  pub text_only : (b : ℕ) → Only b (started s p b)
  unfolding started plain_at is_mark
  text_only b =
      holds (Only b) (eqb b quote) _ _ (plainly b (quoted_at s p) (all_plainly Text refl (quoted_at s p) (quoted_text s p)))
      (holds (Only b) (eqb b percent) _ _ (plainly b (word_at s p) (all_plainly Scalar refl (word_at s p) (word_scalar s p)))
      (holds (Only b) (starts_number b) _ _ (plainly b (number_at s p) (all_plainly Scalar refl (number_at s p) (number_scalar s p)))
      (holds (Only b) (starts_plain b) _ _ (plainly b (plain_at s p) refl) (marks_only b p))))
