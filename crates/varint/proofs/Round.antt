-- The round trip: what was written reads back. And: the form is the shortest that reads so, and what is read is below 2 ^ 64. Assumes nothing.
use mathlib.Core.Path.{◌≡◌, refl, sym, ap, ap₂, ◌∙◌}
use mathlib.Core.Logic.{⊎_elim}
use mathlib.Core.Bool.{Bool, true, false}
use mathlib.Core.List.{List, [], ◌∷◌, ◌++◌}
use Prim.Native.Nat.{ℕ, zero, suc, ◌+◌, ◌*◌, ◌/◌, ◌%◌, ◌^◌, ◌≤◌, ◌<◌, zero-le}
use native.Mathlib.Nat.{pow-suc}
use native.Mathlib.Omega.{arith}
use lib.ListN.{length, take, drop, get_or, length-append, length-drop}
use lib.Seq.{take-append_seam, length-take-le}
use lib.Dec.{leb}
use borrow.Author.Tests.{lt-ltb, le-ltb, le-leb, lt-leb, leb-false, ltb-false}
use Rattle.refusal.specs.Numbers.{bad_byte, long_varint, wide_varint, beyond_slice}
use Rattle.refusal.specs.Paper.{Paper, more, refused, Got, pick}
use Rattle.refusal.proofs.Cases.{either}
use Rattle.varint.specs.Varint.{run, number, tenth_is_wide, eleventh_is_there, runs_out, uvarint, uvarint_at}
use Rattle.varint.specs.Write.{encode, write_bytes}
use Rattle.varint.proofs.Read.{giving, run_yes, run_no, no_four, no_four_yet, no_three_yet, number_take, number_lt, sum_lt, at_is}
use Rattle.varint.proofs.Write.{last, step}

-- ---- what `encode` gives

-- induction along the bytes: a number of one byte, and any other from its rest
by_bytes : (P : ℕ → Type 0) → ((n : ℕ) → n < 128 → P n) → ((n : ℕ) → 128 ≤ n → P (n / 128) → P n) → (k n : ℕ) → n ≤ k → P n
by_bytes P f g zero n h = f n (omega arith)
by_bytes P f g (suc k) n h = ⊎_elim (λ p. g n p (by_bytes P f g k (n / 128) (omega arith))) (λ p. f n p) (either 128 n)

run_encode : (u : List ℕ) (n : ℕ) → suc (run (encode n ++ u)) ≡ length (encode n)
run_encode u n =
    by_bytes (λ (m : ℕ). suc (run (encode m ++ u)) ≡ length (encode m))
    (λ m g. rw (last m g) (ap suc (run_no m u g)))
    (λ m g ih. rw (step m g) (ap suc (run_yes (m % 128 + 128) (encode (m / 128) ++ u) (omega arith) ∙ ih)))
    n n (omega arith)

number_encode : (n : ℕ) → number (encode n) ≡ n
unfolding number
number_encode n =
    by_bytes (λ (m : ℕ). number (encode m) ≡ m)
    (λ m g. rw (last m g) (omega arith))
    (λ m g ih. rw (step m g) (omega arith))
    n n (omega arith)

-- a number below 128 ^ k has at most k bytes, and where it has k + 1 and is below 2 * 128 ^ k, the last is 0 or 1
pub length_encode : (k n : ℕ) → n < 128 ^ suc k → length (encode n) ≤ suc k
length_encode zero n h = omega (arith, ap length (last n h))
length_encode (suc k) n h =
    ⊎_elim (λ g. omega (arith, ap length (step n g), length_encode k (n / 128) (omega (arith, pow-suc 128 (suc k)))))
    (λ g. omega (arith, ap length (last n g))) (either 128 n)

tenth : (u : List ℕ) (k n : ℕ) → n < 2 * 128 ^ k → length (encode n) ≡ suc k → get_or (encode n ++ u) k 0 ≤ 1
tenth u zero n h e = rw (last n (omega arith)) (omega arith)
tenth u (suc k) n h e =
    ⊎_elim
    (λ g. rw (step n g) (tenth u k (n / 128) (omega (arith, pow-suc 128 k)) (omega (arith, ap length (step n g)))))
    (λ g. absurd (omega (arith, ap length (last n g)))) (either 128 n)

-- ---- the round trip

pub gives_is : (at : ℕ) (t : List ℕ) → tenth_is_wide t ≡ false → run t < 10 → run t < length t
    → uvarint at t ≡ giving (number (take (suc (run t)) t)) (at + suc (run t))
unfolding uvarint
gives_is at t e h k = rw (e, no_three_yet t h, lt-leb (length t) (run t) k)

pub round : (at v : ℕ) (u : List ℕ) → v < 2 ^ 64 → uvarint at (encode v ++ u) ≡ giving v (at + length (encode v))
round at v u h =
    let r = run_encode u v in
    let n = length_encode 9 v (omega arith) in
    let l = length-append (encode v) u in
    let four : tenth_is_wide (encode v ++ u) ≡ false =
    ⊎_elim (λ g. let d = tenth u 9 v (omega arith) (omega arith) in no_four (encode v ++ u) (omega arith))
    (λ g. no_four_yet (encode v ++ u) g)
    (either 9 (run (encode v ++ u))) in
    gives_is at (encode v ++ u) four (omega arith) (omega arith)
    ∙ ap₂ giving (rw (r, take-append_seam (encode v) u) (number_encode v)) (ap (λ (m : ℕ). at + m) r)

-- in a lent output
pub round_at : (out : List ℕ) (v : ℕ) → v < 2 ^ 64 → length (encode v) ≤ length out → uvarint_at (write_bytes out v) 0 ≡ giving v (length (encode v))
unfolding write_bytes
round_at out v h q =
    rw (le-ltb (length out) (length (encode v)) q)
    (at_is (encode v ++ drop (length (encode v)) out) 0 zero-le ∙ round 0 v _ h ∙ ap (giving v) (omega arith))

no_bool : ◌≡◌ {A = Bool} true false → ⊥
no_bool e = let z : ◌≡◌ {A = ℕ} 0 1 = cc in omega arith

no_answer : {v n : ℕ} → ◌≡◌ {A = Paper (Got ℕ)} (refused beyond_slice []) (giving v n) → ⊥
no_answer e = let z : ◌≡◌ {A = ℕ} 0 1 = cc in omega arith

-- ---- the other way: what is read fits, and is no shorter than what is written

picked : (q₁ q₂ q₃ : Bool) (a b : List ℕ) (w m v n : ℕ) → pick q₁ (refused wide_varint a) (pick q₂ (refused long_varint b) (pick q₃ more (giving w m))) ≡ giving v n
    → (q₁ ≡ false) × (q₂ ≡ false) × (q₃ ≡ false) × (w ≡ v) × (m ≡ n)
picked true q₂ q₃ a b w m v n e = let z : ◌≡◌ {A = ℕ} 0 1 = cc in absurd (omega arith)
picked false true q₃ a b w m v n e = let z : ◌≡◌ {A = ℕ} 0 1 = cc in absurd (omega arith)
picked false false true a b w m v n e = let z : ◌≡◌ {A = ℕ} 0 1 = cc in absurd (omega arith)
picked false false false a b w m v n e = (refl, refl, refl, (cc), (cc))

-- a number that is read: fewer than ten bytes with the top bit, and a small tenth
read_is : (at : ℕ) (t : List ℕ) (v n : ℕ) → uvarint at t ≡ giving v n
    → (number (take (suc (run t)) t) ≡ v) × (at + suc (run t) ≡ n) × (run t < length t) × (run t ≤ 9) × (9 ≤ run t → get_or t 9 0 % 128 ≤ 1)
unfolding uvarint
read_is at t v n e =
    let p : (tenth_is_wide t ≡ false) × (eleventh_is_there t ≡ false)
    × (leb (length t) (run t) ≡ false) × (number (take (suc (run t)) t) ≡ v) × (at + suc (run t) ≡ n) = picked _ _ _ _ _ _ _ v n e in
    let k : run t < length t = leb-false _ _ p.2 in
    let m : run t ≤ 9 =
    ⊎_elim (λ g. absurd (no_bool (rw (le-leb 10 (run t) g, lt-ltb 10 (length t) (omega arith)) at p.1))) (λ g. omega arith)
    (either 10 (run t)) in
    (p.3, p.4, k, m, λ g. ltb-false _ _ (rw (le-leb 9 (run t) g, lt-ltb 9 (length t) (omega arith)) at p.0))

pub below : (at : ℕ) (t : List ℕ) (v n : ℕ) → uvarint at t ≡ giving v n → v < 2 ^ 64
below at t v n e =
    let p = read_is at t v n e in
    ⊎_elim
    (λ g.
    let r : run t ≡ 9 = omega arith in
    let d = p.4 g in
    let l : length (take 9 t) ≡ 9 = length-take-le 9 t (omega arith) in
    let x : number (take 10 t) ≡ v = rw r at p.0 in
    omega (arith, number_take 9 t (omega arith), rw l at (number_lt (take 9 t))))
    (λ g. omega (arith, number_take (run t) t p.2, sum_lt (run t) t g p.2))
    (either 9 (run t))

-- the bytes that were read are no fewer than those that would be written
pub shortest : (at : ℕ) (t : List ℕ) (v n : ℕ) → uvarint at t ≡ giving v n → at + length (encode v) ≤ n
shortest at t v n e =
    let p = read_is at t v n e in
    let l : length (take (suc (run t)) t) ≡ suc (run t) = length-take-le (suc (run t)) t p.2 in
    let x : number (take (suc (run t)) t) < 128 ^ suc (run t) = rw l at (number_lt (take (suc (run t)) t)) in
    omega (arith, length_encode (run t) v (rw p.0 at x))

-- and they lie within the slice
pub within : (s : List ℕ) (at v n : ℕ) → uvarint_at s at ≡ giving v n → (at < n) × (n ≤ length s) × (v < 2 ^ 64)
unfolding uvarint_at
within s at v n e =
    ⊎_elim
    (λ h.
    let p = read_is at (drop at s) v n (sym (at_is s at h) ∙ e) in
    (omega arith, omega (arith, length-drop at s), below at (drop at s) v n (sym (at_is s at h) ∙ e)))
    (λ h. let f : ◌≡◌ {A = Paper (Got ℕ)} (refused beyond_slice []) (giving v n) = rw (lt-ltb (length s) at h) at e in absurd (no_answer f))
    (either at (length s))

-- what is read from the shortest form is written back as the very bytes that were read
pub back : (t : List ℕ) → ((i : ℕ) → get_or t i 0 < 256) → run t < length t → length (encode (number (take (suc (run t)) t))) ≡ suc (run t)
    → encode (number (take (suc (run t)) t)) ≡ take (suc (run t)) t
unfolding number
back [] f k e = absurd (omega arith)
back (b ∷ bs) f k e =
    ⊎_elim
    (λ h.
    let r : run (b ∷ bs) ≡ suc (run bs) = run_yes b bs h in
    let m : ℕ = number (take (suc (run bs)) bs) in
    let n : ℕ = b % 128 + 128 * m in
    let l : length (encode n) ≡ suc (suc (run bs)) = rw r at e in
    let big : 128 ≤ n = ⊎_elim (λ g. g) (λ g. absurd (omega (arith, ap length (last n g)))) (either 128 n) in
    let d : n / 128 ≡ m = omega arith in
    let x : n % 128 + 128 ≡ b = omega (arith, f 0) in
    let s : encode n ≡ b ∷ encode m = step n big ∙ ap₂ (λ (c : ℕ) (q : ℕ). c ∷ encode q) x d in
    let i : encode m ≡ take (suc (run bs)) bs =
    back bs (λ j. f (suc j)) (omega arith) (omega (arith, ap length s)) in
    rw r (s ∙ ap (λ (q : List ℕ). b ∷ q) i))
    (λ h. let r : run (b ∷ bs) ≡ 0 = run_no b bs h in rw r (ap encode (omega arith) ∙ last b h))
    (either 128 b)

pub written_back : (at : ℕ) (t : List ℕ) (v n : ℕ) → ((i : ℕ) → get_or t i 0 < 256) → uvarint at t ≡ giving v n → at + length (encode v) ≡ n
    → encode v ≡ take (length (encode v)) t
written_back at t v n f e h =
    let p = read_is at t v n e in
    let l : length (encode v) ≡ suc (run t) = omega arith in
    rw l (sym (ap encode p.0) ∙ back t f p.2 (rw p.0 l))

-- a place within the slice is never beyond it: what is refused there carries a place
pub never_beyond : (s : List ℕ) (at n : ℕ) → at ≤ length s → uvarint_at s at ≡ refused n [] → ⊥
unfolding uvarint
never_beyond s at n h e = no (tenth_is_wide t) (eleventh_is_there t) (runs_out t) (number (take (suc (run t)) t)) (at + suc (run t)) (sym (at_is s at h) ∙ e)
  where
    t : List ℕ
    t = drop at s

    no : (q₁ q₂ q₃ : Bool) (v m : ℕ)
        → pick q₁ (refused wide_varint (at ∷ [])) (pick q₂ (refused long_varint (at ∷ [])) (pick q₃ more (giving v m))) ≡ refused n [] → ⊥
    no true q₂ q₃ v m x = let z : ◌≡◌ {A = ℕ} 0 1 = cc in omega arith
    no false true q₃ v m x = let z : ◌≡◌ {A = ℕ} 0 1 = cc in omega arith
    no false false true v m x = let z : ◌≡◌ {A = ℕ} 0 1 = cc in omega arith
    no false false false v m x = let z : ◌≡◌ {A = ℕ} 0 1 = cc in omega arith

-- what is refused within the slice is 3 or 4
pub refused_number : (s : List ℕ) (at n : ℕ) (vs : List ℕ) → at ≤ length s → uvarint_at s at ≡ refused n vs → (bad_byte ≤ n) × (n ≤ wide_varint)
unfolding uvarint
refused_number s at n vs h e =
    which (tenth_is_wide t) (eleventh_is_there t) (runs_out t) (number (take (suc (run t)) t)) (at + suc (run t)) (sym (at_is s at h) ∙ e)
  where
    t : List ℕ
    t = drop at s

    which : (q₁ q₂ q₃ : Bool) (v m : ℕ)
        → pick q₁ (refused wide_varint (at ∷ [])) (pick q₂ (refused long_varint (at ∷ [])) (pick q₃ more (giving v m))) ≡ refused n vs → (bad_byte ≤ n) × (n ≤ wide_varint)
    which true q₂ q₃ v m x = let z : wide_varint ≡ n = cc in (omega arith, omega arith)
    which false true q₃ v m x = let z : long_varint ≡ n = cc in (omega arith, omega arith)
    which false false true v m x = let z : ◌≡◌ {A = ℕ} 0 1 = cc in absurd (omega arith)
    which false false false v m x = let z : ◌≡◌ {A = ℕ} 0 1 = cc in absurd (omega arith)
