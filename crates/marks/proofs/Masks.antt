-- Which masks mark each kind of byte.
use mathlib.Core.Path.{◌≡◌, refl, sym, ap, ap₂, ◌∙◌}
use mathlib.Core.Bool.{Bool, true, false, cond}
use mathlib.Core.List.{List}
use Prim.Native.Nat.{ℕ, ◌+◌, ◌*◌, ◌-◌, ◌≤◌, ◌<◌}
use native.Mathlib.Nat.{zero-add}
use native.Mathlib.Omega.{arith}
use native.Mathlib.Nat.{mod-eq_of_lt}
use lib.Bits.{bit_and, bit_or, bit_xor, and_mask, and_le_l, and_le_r, or_lt, xor_lt, xor_self, xor_add_and}
use lib.Dec.{eqb, lit<}
use borrow.Author.Tests.{eqb-true, eqb-false, ne_eqb}
use lib.ListN.{get_or}
use Rattle.marks.specs.Classes.{is_byte, is_quote, is_other, no_letter}
use Rattle.word.specs.Word.{word_at, marks_at}
use Rattle.word.proofs.Bytewise.{rep, agreed, always, Local, Op, the, all, ◌and◌, ◌or◌, ◌xor◌, ◌plus◌, the_local, all_local, and_local, or_local, xor_local, plus_local, marked}

c127 : Local (all 127)
c127 = all_local 127 (lit< tt)

-- ---- the bits that are not set
pub not_word : (x : ℕ) → x < 18446744073709551616 → 18446744073709551615 - x ≡ bit_xor x 18446744073709551615
not_word x h = omega (arith, xor_add_and x 18446744073709551615, and_mask x 64 ∙ mod-eq_of_lt h)

abbrev pub flip : Op → Op
flip F = F xor all 255

flip_local : {F : Op} → Local F → Local (flip F)
flip_local f = xor_local f (all_local 255 (lit< tt))

-- a mark in each byte whose top bit is not set
abbrev pub unset : Op → Op
unset F = flip F and all 128

unset_local : {F : Op} → Local F → Local (unset F)
unset_local f = and_local (flip_local f) (all_local 128 (lit< tt))

-- the same of a word, as the code has it
pub unset_word : (x : ℕ) → x < 18446744073709551616 → bit_and (18446744073709551615 - x) 9259542123273814144 ≡ bit_and (bit_xor x 18446744073709551615) 9259542123273814144
unset_word x h = ap (λ (y : ℕ). bit_and y 9259542123273814144) (not_word x h)

-- ---- the top bit of a byte is set where the byte is not c
abbrev pub filled : Op → Op
filled F = ((F and all 127) plus all 127) or F

filled_local : {F : Op} → Local F → Local (filled F)
filled_local {F} f = or_local (plus_local (and_local f c127) c127 (λ r h. omega (arith, and_le_r (F 1 r) 127))) f

-- ---- a mark in each byte that is c
xor_none : (a b : ℕ) → bit_xor a b ≡ 0 → a ≡ b
xor_none a b e = omega (arith, xor_add_and a b, and_le_l a b, and_le_r a b)

abbrev pub bytes : ℕ → Op
bytes c = unset (filled (the xor all c))

-- of one byte: none is left of it where it is c
bytes_one : (c : ℕ) → c < 256 → (b : ℕ) → b < 256 → bytes c 1 b ≡ cond (is_byte c b) 128 0
unfolding is_byte
bytes_one c h b k = ap (λ (d : ℕ). unset (filled the) 1 (bit_xor b d)) (zero-add c) ∙ agreed (unset (filled the) 1) (λ x. cond (eqb x 0) 128 0) 256 tt (bit_xor b c) (xor_lt 8 b c k h) ∙ ap (λ (t : Bool). cond t 128 0) (same (eqb b c) refl)
  where
    same : (t : Bool) → eqb b c ≡ t → eqb (bit_xor b c) 0 ≡ eqb b c
    same true e = ap (λ (x : ℕ). eqb x 0) (ap (λ (x : ℕ). bit_xor x c) (eqb-true b c e) ∙ xor_self c) ∙ sym e
    same false e = ne_eqb _ _ (λ z. eqb-false _ _ e (xor_none b c z)) ∙ sym e

pub byted : (c : ℕ) → c < 256 → (s : List ℕ) → ((i : ℕ) → get_or s i 0 < 256) → (n p : ℕ) → bytes c n (word_at n s p) ≡ marks_at (is_byte c) n s p
byted c h = marked (unset_local (filled_local (xor_local the_local (all_local c h)))) (is_byte c) (bytes_one c h)

-- eight bytes that are all c
pub rep_eight : (c : ℕ) → c * 72340172838076673 ≡ rep c 8
rep_eight c = omega arith

-- ---- a mark in each byte that is a quote or a backslash
abbrev pub quotes : Op
quotes = unset (filled (the xor all 34) and filled (the xor all 92))

pub quoted : (s : List ℕ) → ((i : ℕ) → get_or s i 0 < 256) → (n p : ℕ) → quotes n (word_at n s p) ≡ marks_at is_quote n s p
unfolding is_quote
quoted =
    marked
    (unset_local (and_local (filled_local (xor_local the_local (all_local 34 (lit< tt)))) (filled_local (xor_local the_local (all_local 92 (lit< tt))))))
    is_quote
    (agreed (quotes 1) (λ b. cond (is_quote b) 128 0) 256 tt)

-- ---- the top bits of sums without carry: which bytes of F, of seven bits, are 128 - c at least
abbrev pub low : Op
low = the and all 127

low_local : Local low
low_local = and_local the_local c127

-- ---- a mark in each byte that is no digit
abbrev pub others : Op
others = unset ((low plus all 80) and flip (low plus all 70) and flip the)

pub othered : (s : List ℕ) → ((i : ℕ) → get_or s i 0 < 256) → (n p : ℕ) → others n (word_at n s p) ≡ marks_at is_other n s p
unfolding is_other
othered =
    marked
    (unset_local
    (and_local
    (and_local (plus_local low_local (all_local 80 (lit< tt)) (always _ tt)) (flip_local (plus_local low_local (all_local 70 (lit< tt)) (always _ tt))))
    (flip_local the_local)))
    is_other
    (agreed (others 1) (λ b. cond (is_other b) 128 0) 256 tt)

-- ---- a mark in each byte that is no letter
abbrev small : Op
small = low or all 32

small_local : Local small
small_local = or_local low_local (all_local 32 (lit< tt))

abbrev pub letters : Op
letters = unset ((small plus all 31) and flip ((small plus all 5) or the))

pub lettered : (s : List ℕ) → ((i : ℕ) → get_or s i 0 < 256) → (n p : ℕ) → letters n (word_at n s p) ≡ marks_at no_letter n s p
unfolding no_letter
lettered =
    marked
    (unset_local
    (and_local (plus_local small_local (all_local 31 (lit< tt)) (always _ tt))
    (flip_local (or_local (plus_local small_local (all_local 5 (lit< tt)) (always _ tt)) the_local))))
    no_letter
    (agreed (letters 1) (λ b. cond (no_letter b) 128 0) 256 tt)

-- ---- words of seven bits a byte, whose sums fit a word
pub low_63 : (w : ℕ) → bit_and w 9187201950435737471 < 9223372036854775808
low_63 w = omega (arith, and_le_r w 9187201950435737471)

pub or_63 : (w c : ℕ) → c < 9223372036854775808 → bit_or (bit_and w 9187201950435737471) c < 9223372036854775808
or_63 w c h = or_lt 63 (bit_and w 9187201950435737471) c (low_63 w) h

-- the masks, as the code has them
module _ (w : ℕ) (h : w < 18446744073709551616) where
  pub other_word : bit_and (18446744073709551615 - bit_and (bit_and (low 8 w + 5787213827046133840) (18446744073709551615 - (low 8 w + 5063812098665367110))) (18446744073709551615 - w)) 9259542123273814144 ≡ others 8 w
  other_word =
      let from = low 8 w + 5787213827046133840 in
      let over = low 8 w + 5063812098665367110 in
      let b : bit_and (bit_and from (bit_xor over 18446744073709551615)) (bit_xor w 18446744073709551615) ≤ from = omega (arith, and_le_l from (bit_xor over 18446744073709551615), and_le_l (bit_and from (bit_xor over 18446744073709551615)) (bit_xor w 18446744073709551615)) in
      ap₂ (λ (x y : ℕ). bit_and (18446744073709551615 - bit_and (bit_and from x) y) 9259542123273814144) (not_word over (omega (arith, low_63 w))) (not_word w h)
      ∙ unset_word _ (omega (arith, b, low_63 w))

  pub letter_word : bit_and (18446744073709551615 - bit_and (small 8 w + 2242545357980376863) (18446744073709551615 - bit_or (small 8 w + 361700864190383365) w)) 9259542123273814144 ≡ letters 8 w
  letter_word =
      let from = small 8 w + 2242545357980376863 in
      let over = small 8 w + 361700864190383365 in
      let k : small 8 w < 9223372036854775808 = or_63 w 2314885530818453536 (lit< tt) in
      ap (λ (x : ℕ). bit_and (18446744073709551615 - bit_and from x) 9259542123273814144) (not_word (bit_or over w) (or_lt 64 over w (omega arith) h))
      ∙ unset_word _ (omega (arith, and_le_l from (bit_xor (bit_or over w) 18446744073709551615)))
