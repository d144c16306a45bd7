-- Which classes of bytes lie in which, and which have no byte in common. Assumes nothing.
use mathlib.Core.Path.{◌≡◌, refl, sym, ap, ◌∙◌}
use mathlib.Core.Bool.{Bool, true, false, ◌&&◌, ◌||◌}
use mathlib.Core.List.{List, [], ◌∷◌}
use Prim.Native.Nat.{ℕ, ◌≤◌}
use native.Mathlib.Omega.{arith}
use borrow.Author.Tests.{leb-true, eqb-true, ne_eqb}
use lib.Dec.{eqb, leb}
use Rattle.std.specs.Char.{is_ascii_digit}
use Rattle.std.proofs.lemmas.Bool.Decides.{nat_tests}
use Rattle.token.specs.Digits.{is_digit}
use Rattle.number.specs.Bytes.{is_minus, is_sign, is_point, is_exponent, is_pointed, is_text, is_unsigned, starts}

-- one class lies in another
abbrev pub In : (ℕ → Bool) → (ℕ → Bool) → Type 0
In f g = (b : ℕ) → f b ≡ true → g b ≡ true

-- no byte is of both classes
abbrev pub Apart : (ℕ → Bool) → (ℕ → Bool) → Type 0
Apart f g = (b : ℕ) → f b ≡ true → g b ≡ false

or_left : (p q : Bool) → p ≡ true → (p || q) ≡ true
or_left p q e = rw e

or_right : (p q : Bool) → q ≡ true → (p || q) ≡ true
or_right true q e = refl
or_right false q e = e

or_else : (p q : Bool) → p ≡ false → q ≡ false → (p || q) ≡ false
or_else p q e f = rw (e, f)

pub and_left : (p q : Bool) → (p && q) ≡ true → p ≡ true
and_left true q e = refl
and_left false q e = e

pub and_right : (p q : Bool) → (p && q) ≡ true → q ≡ true
and_right true q e = e
and_right false q e = cc

-- a byte of `x || y` is one of the two numbers
either : (b x y : ℕ) (g : ℕ → Bool) → g x ≡ false → g y ≡ false → (eqb b x || eqb b y) ≡ true → g b ≡ false
either b x y g gx gy = go (eqb b x) refl
  where
    go : (q : Bool) → eqb b x ≡ q → (q || eqb b y) ≡ true → g b ≡ false
    go true e f = ap g (eqb-true b x e) ∙ gx
    go false e f = ap g (eqb-true b y f) ∙ gy

-- the library's digits are those of text
pub digit_is : (b : ℕ) → is_ascii_digit b ≡ is_digit b
unfolding is_digit
digit_is b = grind (arith, nat_tests)

pub digit_from : (b : ℕ) → is_digit b ≡ true → 48 ≤ b
unfolding is_digit
digit_from b e = leb-true 48 b (and_left _ _ e)

pub digit_to : (b : ℕ) → is_digit b ≡ true → b ≤ 57
unfolding is_digit
digit_to b e = leb-true b 57 (and_right (leb 48 b) _ e)

pub digit_in : In is_digit is_text
unfolding is_text
digit_in b e = or_left _ _ e

pub sign_in : In is_sign is_text
unfolding is_text
sign_in b e = or_right (is_digit b) _ (or_left _ _ e)

pub pointed_in : In is_pointed is_text
unfolding is_text
pointed_in b e = or_right (is_digit b) _ (or_right (is_sign b) _ e)

pub minus_in : In is_minus is_text
unfolding is_sign
minus_in b e = sign_in b (or_right (eqb b 43) _ e)

pub exponent_pointed : In is_exponent is_pointed
unfolding is_pointed
exponent_pointed b e = or_right (is_point b) _ e

pub exponent_in : In is_exponent is_text
exponent_in b e = pointed_in b (exponent_pointed b e)

pub point_in : In is_point is_text
unfolding is_pointed
point_in b e = pointed_in b (or_left _ _ e)

pub digit_apart : Apart is_digit is_pointed
unfolding is_pointed is_exponent
digit_apart b e = or_else _ _ (ne_eqb b 46 (λ z. omega (arith, digit_from b e, digit_to b e))) (or_else _ _ (ne_eqb b 101 (λ z. omega (arith, digit_from b e, digit_to b e))) (ne_eqb b 69 (λ z. omega (arith, digit_from b e, digit_to b e))))

pub sign_apart : Apart is_sign is_pointed
unfolding is_sign is_pointed is_exponent
sign_apart b e = either b 43 45 (λ (k : ℕ). is_pointed k) refl refl e

pub unsigned_apart : Apart is_unsigned is_text
unfolding is_text is_digit is_sign is_pointed is_exponent
unsigned_apart b e = ap (λ (k : ℕ). is_text k) (eqb-true b 117 e)

-- where none of a class stands in front, none of a class in it does
pub starts_less : (f g : ℕ → Bool) → In f g → (l : List ℕ) → starts g l ≡ false → starts f l ≡ false
starts_less f g i [] e = refl
starts_less f g i (b ∷ l) e = go (f b) refl
  where
    go : (q : Bool) → f b ≡ q → q ≡ false
    go false k = refl
    go true k = sym (i b k) ∙ e

pub starts_apart : (f g : ℕ → Bool) → Apart f g → (l : List ℕ) → starts f l ≡ true → starts g l ≡ false
starts_apart f g i [] e = refl
starts_apart f g i (b ∷ l) e = i b e
