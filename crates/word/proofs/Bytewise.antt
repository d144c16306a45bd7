-- Masks on whole words do to each byte what they do to one.
use mathlib.Core.Path.{◌≡◌, refl, sym, ap, ap₂, ◌∙◌}
use mathlib.Core.Bool.{Bool, true, false, cond}
use mathlib.Core.Logic.{◌⊎◌, inl, inr}
use mathlib.Core.List.{List}
use Prim.Native.Nat.{ℕ, zero, suc, ◌+◌, ◌*◌, ◌<◌}
use native.Mathlib.Nat.{le_of_suc-le-suc, not-suc-le-zero, eq-or-lt_of_le, zero-add}
use native.Mathlib.Omega.{arith}
use lib.Bits.{bit_and, bit_or, bit_xor, and_block, or_block, xor_block, and_lt, or_lt, xor_lt}
use lib.Dec.{T, eqb, ltb, eqb→eq, lit<}
use borrow.Author.Tests.{ltb-true}
use lib.ListN.{get_or}
use Rattle.word.specs.Word.{word_at, marks_at}

-- n bytes that are all c
abbrev pub rep : ℕ → ℕ → ℕ
rep c zero = 0
rep c (suc n) = rep c n * 256 + c

-- ---- two functions agree on all numbers below n: one test, which antt computes
abbrev pub both : Bool → Bool → Bool
both true b = b
both false b = false

abbrev pub agree : (ℕ → ℕ) → (ℕ → ℕ) → ℕ → Bool
agree f g zero = true
agree f g (suc n) = both (eqb (f n) (g n)) (agree f g n)

left : (a b : Bool) → T (both a b) → T a
left true b t = tt
left false b t = t

right : (a b : Bool) → T (both a b) → T b
right true b t = t
right false b t = absurd t

pub agreed : (f g : ℕ → ℕ) (n : ℕ) → T (agree f g n) → (b : ℕ) → b < n → f b ≡ g b
agreed f g zero t b h = absurd (not-suc-le-zero h)
agreed f g (suc n) t b h = go (eq-or-lt_of_le (le_of_suc-le-suc h)) (agreed f g n (right (eqb (f n) (g n)) (agree f g n) t) b)
  where
    go : (b ≡ n) ⊎ (b < n) → (b < n → f b ≡ g b) → f b ≡ g b
    go (inl e) r = rw e (eqb→eq (f n) (g n) (left (eqb (f n) (g n)) (agree f g n) t))
    go (inr l) r = r l

-- a number below 256 at all numbers below 256
pub always : (f : ℕ → ℕ) → T (agree (λ b. cond (ltb (f b) 256) 0 1) (λ b. 0) 256) → (b : ℕ) → b < 256 → f b < 256
always f t b h = go (ltb (f b) 256) refl (agreed (λ b. cond (ltb (f b) 256) 0 1) (λ b. 0) 256 t b h)
  where
    go : (u : Bool) → ltb (f b) 256 ≡ u → ◌≡◌ {A = ℕ} (cond u 0 1) 0 → f b < 256
    go true e z = ltb-true (f b) 256 e
    go false e z = absurd (omega arith)

-- ---- an operation on words of n bytes that does to each byte what it does to one
pub record Local (F : ℕ → ℕ → ℕ) : Type 0 where
  pub none : F 0 0 ≡ 0
  pub step : (n a r : ℕ) → r < 256 → F (suc n) (a * 256 + r) ≡ F n a * 256 + F 1 r
  pub small : (r : ℕ) → r < 256 → F 1 r < 256

abbrev pub Op : Type 0
Op = ℕ → ℕ → ℕ

abbrev pub the : Op
the n w = w

abbrev pub all : ℕ → Op
all c n w = rep c n

infixl 20 ◌and◌
abbrev pub ◌and◌ : Op → Op → Op
◌and◌ F G n w = bit_and (F n w) (G n w)

infixl 20 ◌or◌
abbrev pub ◌or◌ : Op → Op → Op
◌or◌ F G n w = bit_or (F n w) (G n w)

infixl 20 ◌xor◌
abbrev pub ◌xor◌ : Op → Op → Op
◌xor◌ F G n w = bit_xor (F n w) (G n w)

infixl 20 ◌plus◌
abbrev pub ◌plus◌ : Op → Op → Op
◌plus◌ F G n w = F n w + G n w

pub the_local : Local the
the_local = record { none = refl; step = λ n a r h. refl; small = λ r h. h }

pub all_local : (c : ℕ) → c < 256 → Local (all c)
all_local c h = record { none = refl; step = λ n a r k. ap (λ (x : ℕ). rep c n * 256 + x) (sym (zero-add c)); small = λ r k. rw zero-add h }

module _ {F G : Op} (f : Local F) (g : Local G) where
  pub and_local : Local (F and G)
  and_local = record {
    none = ap₂ bit_and f.none g.none;
    step = λ n a r h. ap₂ bit_and (f.step n a r h) (g.step n a r h) ∙ and_block 8 (F n a) (G n a) (F 1 r) (G 1 r) (f.small r h) (g.small r h);
    small = λ r h. and_lt 8 (F 1 r) (G 1 r) (f.small r h) (g.small r h);
  }

  pub or_local : Local (F or G)
  or_local = record {
    none = ap₂ bit_or f.none g.none;
    step = λ n a r h. ap₂ bit_or (f.step n a r h) (g.step n a r h) ∙ or_block 8 (F n a) (G n a) (F 1 r) (G 1 r) (f.small r h) (g.small r h);
    small = λ r h. or_lt 8 (F 1 r) (G 1 r) (f.small r h) (g.small r h);
  }

  pub xor_local : Local (F xor G)
  xor_local = record {
    none = ap₂ bit_xor f.none g.none;
    step = λ n a r h. ap₂ bit_xor (f.step n a r h) (g.step n a r h) ∙ xor_block 8 (F n a) (G n a) (F 1 r) (G 1 r) (f.small r h) (g.small r h);
    small = λ r h. xor_lt 8 (F 1 r) (G 1 r) (f.small r h) (g.small r h);
  }

  -- a sum, where no byte carries
  pub plus_local : ((r : ℕ) → r < 256 → F 1 r + G 1 r < 256) → Local (F plus G)
  plus_local k = record {
    none = ap₂ ◌+◌ f.none g.none;
    step = λ n a r h. ap₂ ◌+◌ (f.step n a r h) (g.step n a r h) ∙ apart (F n a) (G n a) (F 1 r) (G 1 r);
    small = k;
  }
    where
      apart : (a b x y : ℕ) → a * 256 + x + (b * 256 + y) ≡ (a + b) * 256 + (x + y)
      apart a b x y = omega arith

-- an operation that marks each byte for which f holds
pub marked :
    {F : Op} → Local F → (f : ℕ → Bool) → ((b : ℕ) → b < 256 → F 1 b ≡ cond (f b) 128 0) → (s : List ℕ) → ((i : ℕ) → get_or s i 0 < 256)
    → (n p : ℕ) → F n (word_at n s p) ≡ marks_at f n s p
unfolding word_at marks_at
marked l f one s known zero p = l.none
marked l f one s known (suc n) p =
    l.step n (word_at n s (p + 1)) (get_or s p 0) (known p)
    ∙ ap₂ (λ (x y : ℕ). x * 256 + y) (marked l f one s known n (p + 1)) (one (get_or s p 0) (known p))

-- ---- a mark in each byte whose top bit is not set
abbrev pub lows : Op → Op
lows F = (F and all 128) xor all 128

pub lows_local : {F : Op} → Local F → Local (lows F)
lows_local f = xor_local (and_local f c128) c128
  where
    c128 : Local (all 128)
    c128 = all_local 128 (lit< tt)
