-- The size of a scalar behind its marker, as the next eight bytes tell it. Assumes nothing.
use mathlib.Core.Path.{◌≡◌, refl, sym, ap, ◌∙◌}
use mathlib.Core.List.{List}
use Prim.Native.Nat.{ℕ, zero, suc, ◌+◌, ◌-◌, ◌/◌, ◌%◌, ◌≤◌, ◌<◌}
use native.Mathlib.Omega.{arith}
use lib.Bits.{bit_and, bit_xor}
use lib.Count.{count_trailing_zeros}
use Rattle.std.specs.Prelude.{Some}
use lib.ListN.{length, get_or}
use borrow.Author.Tests.{le-ltb}
use Rattle.varint.specs.Varint.{uvarint_at, uvarint_end}
use Rattle.varint.specs.Signed.{varint_at}
use Rattle.varint.proofs.Read.{one_byte}
use Rattle.token.specs.Meaning.{kinds_of}
use Rattle.token.specs.Ends.{end_of, scalar_end}
use Rattle.word.specs.Word.{word_at}
use Rattle.binary.specs.Binary.{of_length, double_at, marked}
use Rattle.binary_ends.proofs.Words.{word_end}
use Rattle.binary_ends.proofs.Ends.{whole_end, by_length, string_is, int64_is, uint64_is, double_is}

-- the mark of an eighth byte
eighth : count_trailing_zeros 64 0x8000000000000000 / 8 ≡ 7
unfolding count_trailing_zeros
eighth = refl

module _ (s : List ℕ) (at : ℕ) where
  -- a string, by a length of one byte
  string_size : (r : ℕ) → at + 1 < length s → get_or s (at + 1) 0 % 2 ≡ 0 → get_or s (at + 1) 0 < 128 → r ≡ get_or s (at + 1) 0 / 2 + 1 → at + 1 + r ≤ length s
      → Some (at + 1 + r) ≡ end_of (of_length s at (varint_at s (at + 1)))
  string_size r h even small e l =
      let x : at + 1 + r ≡ at + 1 + 1 + get_or s (at + 1) 0 / 2 = omega arith in
      ap Some x ∙ sym (whole_end s (get_or s (at + 1) 0) (at + 1 + 1) even (omega arith)) ∙ by_length s at _ _ (one_byte s (at + 1) h small)

  pub scalar_string : (r : ℕ) → at + 1 < length s → get_or s (at + 1) 0 % 2 ≡ 0 → get_or s (at + 1) 0 < 128 → r ≡ get_or s (at + 1) 0 / 2 + 1 → at + 1 + r ≤ length s
      → Some (at + 1 + r) ≡ scalar_end (kinds_of (marked s at 1))
  scalar_string r h even small e l = string_size r h even small e l ∙ string_is s at

  -- an int64 of one byte
  pub small_int : at + 1 < length s → get_or s (at + 1) 0 < 128 → Some (at + 1 + 1) ≡ scalar_end (kinds_of (marked s at 2))
  small_int h small = sym (ap uvarint_end (one_byte s (at + 1) h small)) ∙ int64_is s at

  double_size : at + 9 ≤ length s → Some (at + 9) ≡ scalar_end (kinds_of (marked s at 3))
  unfolding double_at
  double_size h = sym (rw (le-ltb (length s - at) 9 (omega arith))) ∙ double_is s at

  -- the others, by the lowest mark
  module _ (known : (i : ℕ) → get_or s i 0 < 256) (h : at + 9 ≤ length s) (marks : ℕ)
      (are : marks ≡ bit_xor (bit_and (word_at 8 s (at + 1)) 0x8080808080808080) 0x8080808080808080) where
    varint_size : (k r : ℕ) → k ≡ count_trailing_zeros 64 marks / 8 → k < 8 → r ≡ k + 1 → Some (at + 1 + r) ≡ uvarint_end (uvarint_at s (at + 1))
    varint_size k r e l g =
        let x : at + 1 + r ≡ at + 1 + suc k = omega arith in
        ap Some x ∙ sym (word_end s (at + 1) marks k known (omega arith) are e l)

    pub other_size : (b m k n r : ℕ) → (b ≡ 1 → ⊥) → 0 < b → b ≤ 6 → (b ≡ 2 → m ≡ marks) × (b ≡ 6 → m ≡ marks) × (b ≡ 3 → m ≡ 0x8000000000000000)
        → k ≡ count_trailing_zeros 64 m / 8 → ((n ≡ 1000 → ⊥) → (k < 8) × (n ≡ k + 1))
        → (b ≡ 4 → r ≡ 0) × (b ≡ 5 → r ≡ 0) × ((b ≡ 4 → ⊥) → (b ≡ 5 → ⊥) → r ≡ n) → (r ≡ 1000 → ⊥)
        → Some (at + 1 + r) ≡ scalar_end (kinds_of (marked s at b))
    unfolding marked
    other_size zero m k n r other l u ms e ns rs z = absurd (omega arith)
    other_size (suc zero) m k n r other l u ms e ns rs z = absurd (other refl)
    other_size (suc (suc zero)) m k n r other l u ms e ns rs z =
        let i : r ≡ n = rs.2 (λ x. omega arith) (λ x. omega arith) in
        let y = ns (λ x. z (i ∙ x)) in
        varint_size k r (e ∙ ap (λ (m : ℕ). count_trailing_zeros 64 m / 8) (ms.0 refl)) y.0 (i ∙ y.1) ∙ int64_is s at
    other_size (suc (suc (suc zero))) m k n r other l u ms e ns rs z =
        let i : r ≡ n = rs.2 (λ x. omega arith) (λ x. omega arith) in
        let y = ns (λ x. z (i ∙ x)) in
        let k7 : k ≡ 7 = e ∙ ap (λ (m : ℕ). count_trailing_zeros 64 m / 8) (ms.2 refl) ∙ eighth in
        let x : at + 1 + r ≡ at + 9 = omega (arith, y.1) in
        ap Some x ∙ double_size h
    other_size (suc (suc (suc (suc zero)))) m k n r other l u ms e ns rs z = let x : at + 1 + r ≡ at + 1 = omega (arith, rs.0 refl) in ap Some x
    other_size (suc (suc (suc (suc (suc zero))))) m k n r other l u ms e ns rs z = let x : at + 1 + r ≡ at + 1 = omega (arith, rs.1 refl) in ap Some x
    other_size (suc (suc (suc (suc (suc (suc zero)))))) m k n r other l u ms e ns rs z =
        let i : r ≡ n = rs.2 (λ x. omega arith) (λ x. omega arith) in
        let y = ns (λ x. z (i ∙ x)) in
        varint_size k r (e ∙ ap (λ (m : ℕ). count_trailing_zeros 64 m / 8) (ms.1 refl)) y.0 (i ∙ y.1) ∙ uint64_is s at
    other_size (suc (suc (suc (suc (suc (suc (suc b))))))) m k n r other l u ms e ns rs z = absurd (omega arith)
