-- The binary token reader is one that streams can be read with. Assumes nothing.
use mathlib.Core.Path.{◌≡◌, refl, sym, ap, ◌∙◌}
use mathlib.Core.List.{List}
use Prim.Native.Nat.{ℕ, ◌+◌}
use native.Mathlib.Omega.{arith}
use lib.Dec.{ltb}
use lib.ListN.{length, get_or, drop}
use lib.Seq.{drop-drop, get_or-drop}
use lib.IntN.{ℤ, pos, negsuc}
use Rattle.refusal.specs.Paper.{Paper, gives, more, refused, Got, got, Spot, pick}
use Rattle.token.specs.declared.Token.{Token}
use Rattle.token.specs.Meaning.{kinds_of}
use Rattle.varint.specs.Varint.{uvarint_at}
use Rattle.varint.specs.Signed.{signed_answer, varint_at}
use Rattle.word.proofs.Bytes.{word_same}
use Rattle.binary.specs.Little.{little8}
use Rattle.binary.specs.Binary.{of_size, of_length, double_at, marked, binary_from}
use Rattle.lexer.specs.Lexer.{kind_at, token_from}
use Rattle.lexer.proofs.Laws as lexer
use Rattle.blocks.specs.Readings.{binary}
use Rattle.blocks.proofs.Laws.{binary_grows}
use Rattle.stream.specs.Interface.{TokenReader}

-- two lists of bytes that are the same from the place p on
module _ (s u : List ℕ) (p : ℕ) (n : length s ≡ length u) (e : drop p s ≡ drop p u) where
  byte : (i : ℕ) → get_or s (p + i) 0 ≡ get_or u (p + i) 0
  byte i = sym (get_or-drop p s i 0) ∙ ap (λ (l : List ℕ). get_or l i 0) e ∙ get_or-drop p u i 0

  first : get_or s p 0 ≡ get_or u p 0
  first = let z : p + 0 ≡ p = omega arith in rw z at (byte 0)

  rest : drop (p + 1) s ≡ drop (p + 1) u
  rest = sym (drop-drop 1 p s) ∙ ap (drop 1) e ∙ drop-drop 1 p u

  same_varint : uvarint_at s (p + 1) ≡ uvarint_at u (p + 1)
  unfolding uvarint_at
  same_varint = rw (n, rest)

  same_size : (q : ℕ) (z : ℤ) → of_size s p q z ≡ of_size u p q z
  same_size q (pos k) = rw n
  same_size q (negsuc k) = refl

  same_length : (a : Paper (Got ℤ)) → of_length s p a ≡ of_length u p a
  same_length (gives (got z q)) = same_size q z
  same_length more = refl
  same_length (refused m vs) = refl

  same_signed : varint_at s (p + 1) ≡ varint_at u (p + 1)
  unfolding varint_at
  same_signed = ap signed_answer same_varint

  same_little : little8 s (p + 1) ≡ little8 u (p + 1)
  same_little = word_same s u 8 (p + 1) (λ i h. let z : p + (1 + i) ≡ p + 1 + i = omega arith in rw z at (byte (1 + i)))

  same_double : double_at s p ≡ double_at u p
  unfolding double_at
  same_double = rw (n, same_little)

  same_string : of_length s p (varint_at s (p + 1)) ≡ of_length u p (varint_at u (p + 1))
  same_string = ap (of_length s p) same_signed ∙ same_length (varint_at u (p + 1))

  same_marked : (b : ℕ) → marked s p b ≡ marked u p b
  unfolding marked
  same_marked b = rw (same_string, same_signed, same_double, same_varint)

  same_token : binary_from s p ≡ binary_from u p
  unfolding binary_from
  same_token = ap (λ (x : Paper (Spot Token)). pick (ltb p (length s)) x more) (same_marked (get_or s p 0) ∙ ap (marked u p) first) ∙ rw n

  same_kind : binary s p ≡ binary u p
  unfolding kind_at token_from
  same_kind = ap kinds_of same_token

pub binary_reader : TokenReader binary
binary_reader = record { grows = binary_grows; settled = lexer.settled; unread = same_kind }
