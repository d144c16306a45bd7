-- Laws of `run`, `number` and `uvarint`, each about a list t: what is known after i bytes, and which answer follows.
-- Assumes nothing.
use mathlib.Core.Path.{◌≡◌, refl, sym, ap, ◌∙◌}
use mathlib.Core.Logic.{⊎_elim}
use mathlib.Core.Bool.{Bool, true, false, ◌&&◌}
use mathlib.Core.List.{List, [], ◌∷◌}
use Prim.Native.Nat.{ℕ, zero, suc, ◌+◌, ◌*◌, ◌%◌, ◌^◌, ◌-◌, ◌≤◌, ◌<◌, zero-le}
use native.Mathlib.Nat.{pow-suc, mul_assoc, pow-le-pow_right}
use native.Mathlib.Numerals.{add-one}
use native.Mathlib.Omega.{arith}
use Rattle.std.specs.Prelude.{Some, None}
use lib.ListN.{length, take, drop, get_or, length-drop}
use lib.Seq.{length-take-le, get_or-drop}
use lib.Dec.{leb, ltb, lit<}
use borrow.Author.Tests.{lt-ltb, le-ltb, le-leb, lt-leb}
use Rattle.refusal.specs.Numbers.{long_varint, wide_varint, beyond_slice}
use Rattle.refusal.specs.Paper.{Paper, gives, more, refused, Got, got}
use Rattle.refusal.proofs.Cases.{either}
use Rattle.varint.specs.Varint.{run, number, tenth_is_wide, eleventh_is_there, uvarint, uvarint_at, uvarint_end}

-- a number and the place after it, as an answer
abbrev pub giving : {A : Type 0} → A → ℕ → Paper (Got A)
giving v n = gives (got v n)

-- ---- run

pub run_yes : (b : ℕ) (bs : List ℕ) → 128 ≤ b → run (b ∷ bs) ≡ suc (run bs)
unfolding run
run_yes b bs h = rw (le-leb 128 b h)

pub run_no : (b : ℕ) (bs : List ℕ) → b < 128 → run (b ∷ bs) ≡ 0
unfolding run
run_no b bs h = rw (lt-leb 128 b h)

pub run_le : (t : List ℕ) → run t ≤ length t
unfolding run
run_le [] = zero-le
run_le (b ∷ bs) = ⊎_elim (λ h. omega (arith, run_yes b bs h, run_le bs)) (λ h. omega (arith, run_no b bs h)) (either 128 b)

-- a byte with the top bit set makes the run longer
pub run_more : (i : ℕ) (t : List ℕ) → i ≤ run t → i < length t → 128 ≤ get_or t i 0 → suc i ≤ run t
run_more zero [] p q h = absurd (omega arith)
run_more (suc i) [] p q h = absurd (omega arith)
run_more zero (b ∷ bs) p q h = omega (arith, run_yes b bs h)
run_more (suc i) (b ∷ bs) p q h =
    ⊎_elim (λ k. omega (arith, run_yes b bs k, run_more i bs (omega (arith, run_yes b bs k)) (omega arith) h))
    (λ k. absurd (omega (arith, run_no b bs k))) (either 128 b)

-- and one without ends it
pub run_stop : (i : ℕ) (t : List ℕ) → i ≤ run t → i < length t → get_or t i 0 < 128 → run t ≡ i
run_stop zero [] p q h = absurd (omega arith)
run_stop (suc i) [] p q h = absurd (omega arith)
run_stop zero (b ∷ bs) p q h = run_no b bs h
run_stop (suc i) (b ∷ bs) p q h =
    ⊎_elim (λ k. omega (arith, run_yes b bs k, run_stop i bs (omega (arith, run_yes b bs k)) (omega arith) h))
    (λ k. absurd (omega (arith, run_no b bs k))) (either 128 b)

-- ---- number

-- one byte more
pub number_take : (i : ℕ) (t : List ℕ) → i < length t
    → number (take (suc i) t) ≡ number (take i t) + get_or t i 0 % 128 * 128 ^ i
unfolding number
number_take zero [] h = absurd (omega arith)
number_take (suc i) [] h = absurd (omega arith)
number_take zero (b ∷ bs) h = omega arith
number_take (suc i) (b ∷ bs) h =
    let p : get_or bs i 0 % 128 * 128 ^ suc i ≡ get_or bs i 0 % 128 * 128 ^ i * 128 = rw (pow-suc 128 i) (sym (mul_assoc _ _ _)) in
    omega (arith, number_take i bs (omega arith))

pub number_lt : (l : List ℕ) → number l < 128 ^ length l
unfolding number
number_lt [] = lit< tt
number_lt (b ∷ bs) = omega (arith, pow-suc 128 (length bs), number_lt bs)

-- nine bytes are below 2 ^ 63
pub nine : (i : ℕ) → i ≤ 9 → 128 ^ i ≤ 0x8000_0000_0000_0000
nine i h = pow-le-pow_right {n = 128} (lit< tt) h

pub sum_lt : (i : ℕ) (t : List ℕ) → i < 9 → i < length t → number (take i t) + get_or t i 0 % 128 * 128 ^ i < 0x8000_0000_0000_0000
sum_lt i t h k =
    let e : length (take (suc i) t) ≡ suc i = length-take-le (suc i) t (omega arith) in
    let n : number (take (suc i) t) < 128 ^ suc i = rw e at (number_lt (take (suc i) t)) in
    omega (arith, number_take i t k, nine (suc i) (omega arith))

-- ---- uvarint

and_no : (a q : Bool) → q ≡ false → (a && q) ≡ false
and_no true q e = e
and_no false q e = refl

-- the two refusals are ruled out, each by one of its tests
pub no_four : (t : List ℕ) → get_or t 9 0 % 128 ≤ 1 → tenth_is_wide t ≡ false
no_four t h = and_no (leb 9 (run t) && ltb 9 (length t)) _ (le-ltb 1 (get_or t 9 0 % 128) h)

no_four_short : (t : List ℕ) → length t ≤ 9 → tenth_is_wide t ≡ false
no_four_short t h = rw (and_no (leb 9 (run t)) _ (le-ltb 9 (length t) h))

pub no_four_yet : (t : List ℕ) → run t < 9 → tenth_is_wide t ≡ false
no_four_yet t h = rw (lt-leb 9 (run t) h)

no_three : (t : List ℕ) → length t ≤ 10 → eleventh_is_there t ≡ false
no_three t h = and_no (leb 10 (run t)) _ (le-ltb 10 (length t) h)

pub no_three_yet : (t : List ℕ) → run t < 10 → eleventh_is_there t ≡ false
no_three_yet t h = rw (lt-leb 10 (run t) h)

pub is_over : (at : ℕ) (t : List ℕ) → 9 ≤ run t → 9 < length t → 1 < get_or t 9 0 % 128 → uvarint at t ≡ refused wide_varint (at ∷ [])
unfolding uvarint
is_over at t p q h = simp (le-leb 9 (run t) p, lt-ltb 9 (length t) q, lt-ltb 1 (get_or t 9 0 % 128) h)

pub is_long : (at : ℕ) (t : List ℕ) → 10 ≤ run t → 10 < length t → get_or t 9 0 % 128 ≤ 1 → uvarint at t ≡ refused long_varint (at ∷ [])
unfolding uvarint
is_long at t p q h = simp (no_four t h, le-leb 10 (run t) p, lt-ltb 10 (length t) q)

-- the bytes ended: within nine, or after ten
pub is_more : (at : ℕ) (t : List ℕ) → length t ≤ run t → length t ≤ 9 → uvarint at t ≡ more
unfolding uvarint
is_more at t p q =
    simp (no_four_short t q, no_three t (omega arith), le-leb (length t) (run t) p)

pub is_more_ten : (at : ℕ) (t : List ℕ) → length t ≤ run t → length t ≤ 10 → get_or t 9 0 % 128 ≤ 1 → uvarint at t ≡ more
unfolding uvarint
is_more_ten at t p q h = simp (no_four t h, no_three t q, le-leb (length t) (run t) p)

-- a byte without the top bit ends the number: before the tenth, or as the tenth
pub is_value : (at i : ℕ) (t : List ℕ) → i < 9 → i ≤ run t → i < length t → get_or t i 0 < 128
    → uvarint at t ≡ giving (number (take i t) + get_or t i 0 % 128 * 128 ^ i) (at + suc i)
unfolding uvarint
is_value at i t h p q k =
    let e : run t ≡ i = run_stop i t p q k in
    rw (no_four_yet t (omega arith), no_three_yet t (omega arith), e, lt-leb (length t) i q, number_take i t q)

pub is_value_ten : (at : ℕ) (t : List ℕ) → 9 ≤ run t → 9 < length t → get_or t 9 0 < 128 → get_or t 9 0 % 128 ≤ 1
    → uvarint at t ≡ giving (number (take 9 t) + get_or t 9 0 % 128 * 128 ^ 9) (at + 10)
unfolding uvarint
is_value_ten at t p q k h =
    let e : run t ≡ 9 = run_stop 9 t p q k in
    rw (no_four t h, no_three_yet t (omega arith), e, lt-leb (length t) 9 q, number_take 9 t q)

pub at_is : (s : List ℕ) (at : ℕ) → at ≤ length s → uvarint_at s at ≡ uvarint at (drop at s)
unfolding uvarint_at
at_is s at h = rw (le-ltb (length s) at h)

pub at_beyond : (s : List ℕ) (at : ℕ) → length s < at → uvarint_at s at ≡ refused beyond_slice []
unfolding uvarint_at
at_beyond s at h = rw (lt-ltb (length s) at h)

-- ---- the walk: what is known before byte i, with the number of the bytes passed and the weight of the next

abbrev pub Passed : List ℕ → ℕ → ℕ → Type 0
Passed s at i = (i ≤ 9) × (i ≤ length s - at) × (i ≤ run (drop at s))

abbrev pub Summed : List ℕ → ℕ → ℕ → ℕ → ℕ → Type 0
Summed s at i v w = (v ≡ number (take i (drop at s))) × (w ≡ 128 ^ i)

-- nine bytes are passed
pub nine_run : (s : List ℕ) (at i : ℕ) → Passed s at i → 9 ≤ i → 9 ≤ run (drop at s)
nine_run s at i p k = omega arith

pub nine_passed : (s : List ℕ) (at i v w : ℕ) → Passed s at i × Summed s at i v w → 9 ≤ i
    → (9 ≤ run (drop at s)) × (v ≡ number (take 9 (drop at s)))
nine_passed s at i v w (p, g) k =
    let e : i ≡ 9 = omega arith in
    (nine_run s at i p k, rw e at g.0)

module _ (s : List ℕ) (at i : ℕ) (h : at ≤ length s) (p : Passed s at i) where
  -- the bytes end here
  pub walk_more : length s - at ≤ i → uvarint_at s at ≡ more
  walk_more k =
      let n = length-drop at s in
      at_is s at h ∙ is_more at (drop at s) (omega arith) (omega arith)

  module _ (k : i < 9) (q : i < length s - at) where
    byte_is : get_or (drop at s) i 0 ≡ get_or s (at + i) 0
    byte_is = get_or-drop at s i 0

    -- one byte further
    pub walk_on : 128 ≤ get_or s (at + i) 0 → Passed s at (i + 1)
    walk_on b =
        let n = length-drop at s in
        let e = byte_is in
        let m = run_more i (drop at s) p.2 (omega arith) (omega arith) in
        (omega arith, omega arith, omega arith)

    -- the last byte
    pub walk_stop : get_or s (at + i) 0 < 128
        → uvarint_at s at ≡ giving (number (take i (drop at s)) + get_or s (at + i) 0 % 128 * 128 ^ i) (at + i + 1)
    walk_stop b =
        let n = length-drop at s in
        let e = byte_is in
        at_is s at h ∙ is_value at i (drop at s) k p.2 (omega arith) (omega arith) ∙ rw e (ap (giving _) (omega arith))

    module _ (b v w : ℕ) (d : b ≡ get_or s (at + i) 0) (g : Summed s at i v w) where
      sum_is : v + b % 128 * w ≡ number (take i (drop at s)) + get_or (drop at s) i 0 % 128 * 128 ^ i
      sum_is = rw (d, g.0, g.1, byte_is)

      -- the sum and the next weight fit
      sum_small : v + b % 128 * w < 0x8000_0000_0000_0000
      sum_small = let n = length-drop at s in rw sum_is (sum_lt i (drop at s) k (omega arith))

      pub part_fits : b % 128 * w < 2 ^ 64
      part_fits = let m = sum_small in omega arith

      pub sum_fits : v + b % 128 * w < 2 ^ 64
      sum_fits = let m = sum_small in omega arith

      pub weight_fits : w * 128 < 2 ^ 64
      weight_fits = omega (arith, g.1, pow-suc 128 i, nine (suc i) (omega arith))

      pub sum_on : Summed s at (i + 1) (v + b % 128 * w) (w * 128)
      sum_on =
          let n = length-drop at s in
          rw (add-one i) (sum_is ∙ sym (number_take i (drop at s) (omega arith)), omega (arith, g.1, pow-suc 128 i))

      pub walk_value : b < 128 → giving (v + b % 128 * w) (at + i + 1) ≡ uvarint_at s at
      walk_value l = rw (d, g.0, g.1) (sym (walk_stop (rw d at l)))

-- ---- the tenth byte, after nine with the top bit set

module _ (s : List ℕ) (at : ℕ) (p : 9 ≤ run (drop at s)) where
  pub nine_there : at + 9 ≤ length s
  nine_there = omega (arith, run_le (drop at s), length-drop at s)

  pub ten_more : length s - at ≤ 9 → uvarint_at s at ≡ more
  ten_more k =
      let n = length-drop at s in
      let g = nine_there in
      at_is s at (omega arith) ∙ is_more at (drop at s) (omega arith) (omega arith)

  pub nine_lt : 9 < length s - at → number (take 9 (drop at s)) < 0x8000_0000_0000_0000
  nine_lt k =
      let n = length-drop at s in
      rw (length-take-le 9 (drop at s) (omega arith)) at (number_lt (take 9 (drop at s)))

  module _ (k : 9 < length s - at) (b : ℕ) (d : b ≡ get_or s (at + 9) 0) where
    tenth_is : get_or (drop at s) 9 0 ≡ b
    tenth_is = get_or-drop at s 9 0 ∙ sym d

    pub ten_wide : 1 < b % 128 → uvarint_at s at ≡ refused wide_varint (at ∷ [])
    ten_wide h =
        let n = length-drop at s in
        at_is s at (omega arith) ∙ is_over at (drop at s) p (omega arith) (rw tenth_is h)

    module _ (h : b % 128 ≤ 1) where
      pub ten_value : (v : ℕ) → v ≡ number (take 9 (drop at s)) → b < 128
          → uvarint_at s at ≡ giving (v + b * 0x8000_0000_0000_0000) (at + 10)
      ten_value v e l =
          let n = length-drop at s in
          at_is s at (omega arith) ∙ is_value_ten at (drop at s) p (omega arith) (rw tenth_is l) (rw tenth_is h)
          ∙ rw (tenth_is, e) (ap (λ (x : ℕ). giving x (at + 10)) (omega arith))

      pub ten_out : 128 ≤ b → length s - at ≤ 10 → uvarint_at s at ≡ more
      ten_out l q =
          let n = length-drop at s in
          let r = run_more 9 (drop at s) p (omega arith) (rw tenth_is l) in
          at_is s at (omega arith) ∙ is_more_ten at (drop at s) (omega arith) (omega arith) (rw tenth_is h)

      pub ten_long : 128 ≤ b → 10 < length s - at → uvarint_at s at ≡ refused long_varint (at ∷ [])
      ten_long l q =
          let n = length-drop at s in
          let r = run_more 9 (drop at s) p (omega arith) (rw tenth_is l) in
          at_is s at (omega arith) ∙ is_long at (drop at s) r (omega arith) (rw tenth_is h)

-- the end that it tells: a tenth byte of 2 or more ends no number
pub ten_end : (s : List ℕ) (at : ℕ) → 9 ≤ run (drop at s) → 9 < length s - at → get_or s (at + 9) 0 < 2 → uvarint_end (uvarint_at s at) ≡ Some (at + 10)
ten_end s at p k h = ap uvarint_end (ten_value s at p k (get_or s (at + 9) 0) refl (omega arith) _ refl (omega arith))

pub ten_no_end : (s : List ℕ) (at : ℕ) → 9 ≤ run (drop at s) → 9 < length s - at → 2 ≤ get_or s (at + 9) 0 → get_or s (at + 9) 0 < 256
    → uvarint_end (uvarint_at s at) ≡ None
ten_no_end s at p k h q =
    let b = get_or s (at + 9) 0 in
    ⊎_elim (λ w. ap uvarint_end (ten_wide s at p k b refl w))
    (λ w.
    let n : b % 128 ≤ 1 = omega arith in
    ⊎_elim (λ l. ap uvarint_end (ten_long s at p k b refl n (omega arith) l)) (λ l. ap uvarint_end (ten_out s at p k b refl n (omega arith) (omega arith)))
    (either 11 (length s - at)))
    (either 2 (b % 128))

-- a first byte without the top bit is the whole number
pub one_byte : (s : List ℕ) (at : ℕ) → at < length s → get_or s at 0 < 128 → uvarint_at s at ≡ giving (get_or s at 0) (at + 1)
unfolding number
one_byte s at h k =
    let t = drop at s in
    let l = length-drop at s in
    let z : at + 0 ≡ at = omega arith in
    let e : get_or t 0 0 ≡ get_or s at 0 = get_or-drop at s 0 0 ∙ ap (λ (i : ℕ). get_or s i 0) z in
    let v : 0 + get_or t 0 0 % 128 * 128 ^ 0 ≡ get_or s at 0 = omega arith in
    at_is s at (omega arith) ∙ is_value at 0 t (lit< tt) zero-le (omega arith) (omega arith) ∙ ap (λ (n : ℕ). giving n (at + 1)) v
