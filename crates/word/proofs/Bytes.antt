-- The bytes of a word.
use mathlib.Core.Path.{◌≡◌, refl, sym, ap, ap₂, ◌∙◌}
use mathlib.Core.List.{List}
use mathlib.Core.Logic.{◌⊎◌, inl, inr}
use Prim.Native.Nat.{ℕ, zero, suc, ◌+◌, ◌*◌, ◌-◌, ◌^◌, ◌≤◌, ◌<◌}
use native.Mathlib.Nat.{add-zero, zero-add, pow-le-pow_right}
use native.Mathlib.Omega.{arith}
use lib.Dec.{lit<}
use lib.ListN.{length, get_or, get_or-eq_default, drop}
use lib.Seq.{get_or-drop, get_or-take}
use mir.Syntax.{w64}
use Rattle.std.specs.Int.{from_le_bytes}
use Rattle.std.specs.Prelude.{slice_range}
use Rattle.word.specs.Word.{word_at}

-- the number of eight bytes
pub word_le : (bs : List ℕ) → from_le_bytes w64 bs ≡ word_at 8 bs 0
unfolding word_at
word_le bs = omega arith

-- behind the end stand only bytes 0
pub word_out : (s : List ℕ) (n p : ℕ) → length s ≤ p → word_at n s p ≡ 0
unfolding word_at
word_out s zero p h = refl
word_out s (suc n) p h = rw (get_or-eq_default s 0 h, word_out s n (p + 1) (omega arith))

-- the same bytes are the same word
word_moved : (s u : List ℕ) (n p q : ℕ) → ((i : ℕ) → i < n → get_or s (p + i) 0 ≡ get_or u (q + i) 0) → word_at n s p ≡ word_at n u q
unfolding word_at
word_moved s u zero p q f = refl
word_moved s u (suc n) p q f = ap₂ (λ (x y : ℕ). x * 256 + y) (word_moved s u n (p + 1) (q + 1) next) here
  where
    here : get_or s p 0 ≡ get_or u q 0
    here = rw (add-zero, add-zero) at (f 0 (omega arith))

    next : (i : ℕ) → i < n → get_or s (p + 1 + i) 0 ≡ get_or u (q + 1 + i) 0
    next i h =
        let e : p + 1 + i ≡ p + suc i = omega arith in
        let g : q + 1 + i ≡ q + suc i = omega arith in
        rw (e, g) (f (suc i) (omega arith))

pub word_same : (s u : List ℕ) (n p : ℕ) → ((i : ℕ) → i < n → get_or s (p + i) 0 ≡ get_or u (p + i) 0) → word_at n s p ≡ word_at n u p
word_same s u n p f = word_moved s u n p p f

-- of eight bytes from p on
pub word_read : (s : List ℕ) (p r : ℕ) (bytes : List ℕ) → r ≡ from_le_bytes w64 bytes → bytes ≡ slice_range s p (p + 8) → r ≡ word_at 8 s p
word_read s p r bytes e f = e ∙ word_le bytes ∙ rw f (word_moved (slice_range s p (p + 8)) s 8 0 p (λ i h. rw zero-add (get_or-take (p + 8 - p) (drop p s) i 0 (omega arith) ∙ get_or-drop p s i 0)))

-- n bytes are below 256 ^ n
word_lt : (s : List ℕ) → ((i : ℕ) → get_or s i 0 < 256) → (n p : ℕ) → word_at n s p < 256 ^ n
unfolding word_at
word_lt s known zero p = lit< tt
word_lt s known (suc n) p = omega (arith, word_lt s known n (p + 1), known p)

-- ---- a byte more in front of the bytes from q on, of the eight from p on
module _ (s : List ℕ) (p q w : ℕ) (h : p < q) (k : q < p + 8) (e : w ≡ word_at (8 - (q - p)) s q) where
  pub more_fits : ((i : ℕ) → get_or s i 0 < 256) → w < 72057594037927936
  more_fits known = omega (arith, word_lt s known (8 - (q - p)) q, pow-le-pow_right {n = 256} (lit< tt) {i = 8 - (q - p)} {j = 7} (omega arith))

  pub word_more : w * 256 + get_or s (q - 1) 0 ≡ word_at (8 - (q - 1 - p)) s (q - 1)
  unfolding word_at
  word_more = rw (less, same) (ap (λ (x : ℕ). x * 256 + get_or s (q - 1) 0) e)
    where
      less : 8 - (q - 1 - p) ≡ suc (8 - (q - p))
      less = omega arith

      same : q - 1 + 1 ≡ q
      same = omega arith

-- down to p
pub word_whole : (s : List ℕ) (p q : ℕ) → q ≤ p → (p ≤ q) ⊎ (length s ≤ q) → word_at (8 - (q - p)) s q ≡ word_at 8 s p
word_whole s p q h (inl k) =
    let e : q ≡ p = omega arith in
    let n : 8 - (p - p) ≡ 8 = omega arith in
    rw (e, n) refl
word_whole s p q h (inr k) = word_out s (8 - (q - p)) q k ∙ sym (word_out s 8 p (omega arith))
