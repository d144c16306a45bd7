-- The end of a varint from eight bytes at once: a mark in the top bit of each byte that can be its last, and the lowest mark. Assumes
-- nothing.
use mathlib.Core.Path.{◌≡◌, refl, sym, ap, subst, ◌∙◌}
use mathlib.Core.Bool.{Bool, true, false, cond}
use mathlib.Core.List.{List}
use Prim.Native.Nat.{ℕ, zero, suc, ◌+◌, ◌*◌, ◌/◌, ◌≤◌, ◌<◌, zero-le}
use native.Mathlib.Nat.{add-zero}
use native.Mathlib.Omega.{arith}
use lib.Bits.{bit_and, bit_xor}
use lib.Count.{count_trailing_zeros}
use lib.Dec.{ltb}
use Rattle.std.specs.Prelude.{Some}
use lib.ListN.{length, drop, get_or, length-drop}
use lib.Seq.{get_or-drop}
use borrow.Author.Tests.{ltb-true, ltb-false}
use Rattle.varint.specs.Varint.{run, uvarint_at, uvarint_end}
use Rattle.varint.proofs.Read.{run_more, is_value, at_is}
use Rattle.word.specs.Word.{word_at, marks_at}
use Rattle.word.proofs.Marks.{plus, bits_of, zeros_none, zeros_mark}
use Rattle.word.proofs.Bytewise.{agreed, the, the_local, marked, lows, lows_local}

-- a byte that can end a varint: one without the top bit
abbrev ends : ℕ → Bool
ends b = ltb b 128

marks_are : (s : List ℕ) → ((i : ℕ) → get_or s i 0 < 256) → (n p : ℕ) → lows the n (word_at n s p) ≡ marks_at ends n s p
marks_are = marked (lows_local the_local) ends (agreed (lows the 1) (λ b. cond (ends b) 128 0) 256 tt)

-- ---- the lowest mark is the varint's last byte

module _ (s : List ℕ) (at : ℕ) (inside : at ≤ length s) where
  -- i bytes have the top bit, and the next has not
  abbrev Last : ℕ → Type 0
  Last i = (i ≤ run (drop at s)) × (get_or s (at + i) 0 < 128)

  one : (n p m : ℕ) (t : Bool) → ltb (get_or s (at + p) 0) 128 ≡ t → p ≤ run (drop at s) → at + p < length s
      → (p + 1 ≤ run (drop at s) → count_trailing_zeros (bits_of n) m / 8 < n → Last (p + 1 + count_trailing_zeros (bits_of n) m / 8))
      → count_trailing_zeros (plus 8 (bits_of n)) (m * 256 + cond t 128 0) / 8 < suc n
      → Last (p + count_trailing_zeros (plus 8 (bits_of n)) (m * 256 + cond t 128 0) / 8)
  one n p m true e h l next k =
      rw (zeros_mark (bits_of n) m, add-zero p) (h, ltb-true _ _ e)
  one n p m false e h l next k =
      let z : count_trailing_zeros (plus 8 (bits_of n)) (m * 256 + 0) ≡ plus 8 (count_trailing_zeros (bits_of n) m) = zeros_none (bits_of n) m in
      let x : p + count_trailing_zeros (plus 8 (bits_of n)) (m * 256 + 0) / 8 ≡ p + 1 + count_trailing_zeros (bits_of n) m / 8 = omega arith in
      let g : get_or (drop at s) p 0 ≡ get_or s (at + p) 0 = get_or-drop at s p 0 in
      let d = length-drop at s in
      let b : 128 ≤ get_or s (at + p) 0 = ltb-false (get_or s (at + p) 0) 128 e in
      let m' = run_more p (drop at s) h (omega arith) (omega arith) in
      rw x (next (omega (arith, m')) (omega arith))

  lowest : (n p : ℕ) → p ≤ run (drop at s) → at + p + n ≤ length s → count_trailing_zeros (bits_of n) (marks_at ends n s (at + p)) / 8 < n
      → Last (p + count_trailing_zeros (bits_of n) (marks_at ends n s (at + p)) / 8)
  unfolding marks_at
  lowest zero p h l k = absurd (omega arith)
  lowest (suc n) p h l k =
      one n p (marks_at ends n s (at + p + 1)) _ refl h (omega arith)
      (λ h' k'.
      let e : at + (p + 1) ≡ at + p + 1 = omega arith in
      rw (sym e) (lowest n (p + 1) h' (omega arith) (rw e k')))
      k

-- the varint at a place, by the marks of the eight bytes there
pub word_end : (s : List ℕ) (at m k : ℕ) → ((i : ℕ) → get_or s i 0 < 256) → at + 8 ≤ length s
    → m ≡ bit_xor (bit_and (word_at 8 s at) 0x8080808080808080) 0x8080808080808080 → k ≡ count_trailing_zeros 64 m / 8 → k < 8
    → uvarint_end (uvarint_at s at) ≡ Some (at + suc k)
word_end s at m k known h e t l =
    let z : at + 0 ≡ at = omega arith in
    let f : m ≡ marks_at ends 8 s (at + 0) = e ∙ marks_are s known 8 at ∙ ap (marks_at ends 8 s) (sym z) in
    let i : k ≡ count_trailing_zeros 64 (marks_at ends 8 s (at + 0)) / 8 = t ∙ ap (λ (m : ℕ). count_trailing_zeros 64 m / 8) f in
    let x = lowest s at (omega arith) 8 0 zero-le (omega arith) (rw (sym i) l) in
    let w : at + (0 + count_trailing_zeros 64 (marks_at ends 8 s (at + 0)) / 8) ≡ at + k = omega (arith, i) in
    let d = length-drop at s in
    let g : get_or (drop at s) k 0 ≡ get_or s (at + k) 0 = get_or-drop at s k 0 in
    let y : get_or s (at + k) 0 < 128 = subst (λ (n : ℕ). get_or s n 0 < 128) w x.1 in
    ap uvarint_end (at_is s at (omega arith) ∙ is_value at k (drop at s) (omega arith) (omega (arith, i, x.0)) (omega arith) (omega arith))
