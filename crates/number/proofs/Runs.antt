-- Laws of the bytes in front and what is left behind them, and of each part of the grammar when bytes that are no number text follow.
-- Assumes nothing.
use mathlib.Core.Path.{◌≡◌, refl, sym, ap, ◌∙◌}
use mathlib.Core.Bool.{Bool, true, false, cond, not, ◌&&◌, ◌||◌}
use mathlib.Core.List.{List, [], ◌∷◌, ◌++◌}
use Prim.Native.Nat.{ℕ, suc, ◌+◌, ◌-◌, ◌≤◌, ◌<◌}
use native.Mathlib.Omega.{arith}
use lib.ListN.{length, take, drop, length-drop}
use Rattle.std.specs.List.{list_any, prefix_len, position}
use Rattle.std.specs.Prelude.{Option, Some, None, unwrap_or, nat_lt}
use Rattle.std.proofs.lemmas.Bool.Decides.{nat_tests}
use lib.Seq.{drop-drop}
use Rattle.number.specs.Places.{Leaves}
use Rattle.std.proofs.lemmas.List.{take_rest}
use Rattle.std.proofs.lemmas.List.Sums.{prefix_len-le-length}
use Rattle.refusal.specs.Paper.{pick}
use Rattle.token.specs.Digits.{is_digit}
use Rattle.number.specs.Bytes.{is_sign, is_point, is_exponent, is_pointed, is_text, starts, any, all}
use Rattle.number.specs.Grammar.{front, past, after_sign, Left, none, left, onward, digits_left, point_left, mantissa_left, exponent_left, double_left}
use Rattle.number.proofs.Classes.{In, Apart, digit_in, sign_in, point_in, exponent_in, digit_apart, sign_apart, starts_less}

-- ---- bytes of a class in front

-- a place that is given where it is less than the length
or_length : (m n : ℕ) → m ≤ n → unwrap_or (cond (nat_lt m n) (Some m) None) n ≡ m
or_length m n h = grind (arith, nat_tests)

module _ (f : ℕ → Bool) where
  pub front_past : (l : List ℕ) → front f l ++ past f l ≡ l
  unfolding front past
  front_past [] = refl
  front_past (b ∷ l) = go (f b) (front_past l)
    where
      go : (q : Bool) → front f l ++ past f l ≡ l → pick q (b ∷ front f l) [] ++ pick q (past f l) (b ∷ l) ≡ b ∷ l
      go true h = ap (λ (k : List ℕ). b ∷ k) h
      go false h = refl

  pub past_stops : (l : List ℕ) → starts f (past f l) ≡ false
  unfolding past
  past_stops [] = refl
  past_stops (b ∷ l) = go (f b) refl (past_stops l)
    where
      go : (q : Bool) → f b ≡ q → starts f (past f l) ≡ false → starts f (pick q (past f l) (b ∷ l)) ≡ false
      go true e h = h
      go false e h = e

  pub past_none : (l : List ℕ) → starts f l ≡ false → past f l ≡ l
  unfolding past
  past_none [] e = refl
  past_none (b ∷ l) e = rw e

  pub past_one : (b : ℕ) (l : List ℕ) → f b ≡ true → past f (b ∷ l) ≡ past f l
  unfolding past
  past_one b l e = rw e

  pub past_append : (l y : List ℕ) → starts f y ≡ false → past f (l ++ y) ≡ past f l ++ y
  unfolding past
  past_append [] y e = past_none y e
  past_append (b ∷ l) y e = go (f b) (past_append l y e)
    where
      go : (q : Bool) → past f (l ++ y) ≡ past f l ++ y → pick q (past f (l ++ y)) (b ∷ (l ++ y)) ≡ pick q (past f l) (b ∷ l) ++ y
      go true h = h
      go false h = refl

  pub past_length : (l : List ℕ) → length (past f l) ≤ length l
  unfolding past
  past_length [] = omega arith
  past_length (b ∷ l) = go (f b) (past_length l)
    where
      go : (q : Bool) → length (past f l) ≤ length l → length (pick q (past f l) (b ∷ l)) ≤ suc (length l)
      go true h = omega arith
      go false h = omega arith

  pub past_less : (l : List ℕ) → starts f l ≡ true → length (past f l) < length l
  unfolding past
  past_less [] e = cc
  past_less (b ∷ l) e = rw e (omega (arith, past_length l))

  -- text that is all of one class leaves nothing
  pub all_past : (l : List ℕ) → past f l ≡ [] → all f l ≡ true
  unfolding past all
  all_past [] e = refl
  all_past (b ∷ l) e = go (f b) (all_past l) e
    where
      go : (q : Bool) → (past f l ≡ [] → all f l ≡ true) → pick q (past f l) (b ∷ l) ≡ [] → (q && all f l) ≡ true
      go true h e = h e
      go false h e = cc

  pub starts_append : (l y : List ℕ) → starts f y ≡ false → starts f (l ++ y) ≡ starts f l
  starts_append [] y e = e
  starts_append (b ∷ l) y e = refl

  -- where the library's test first fails, what is left stands
  past_prefix : (l : List ℕ) → drop (prefix_len (λ b. not (not (f b))) l) l ≡ past f l
  unfolding past
  past_prefix [] = refl
  past_prefix (b ∷ l) = go (f b) (past_prefix l)
    where
      go : (q : Bool) → drop (prefix_len (λ b. not (not (f b))) l) l ≡ past f l → drop (cond (not (not q)) (1 + prefix_len (λ b. not (not (f b))) l) 0) (b ∷ l) ≡ pick q (past f l) (b ∷ l)
      go true h = rw one h
        where
          one : 1 + prefix_len (λ b. not (not (f b))) l ≡ suc (prefix_len (λ b. not (not (f b))) l)
          one = omega arith
      go false h = refl

  -- so its place, or the length where it never fails, is where the bytes of the class end
  pub position_past : (s : List ℕ) (p n : ℕ) (o : Option ℕ) → p ≤ length s → o ≡ position (λ b. not (f b)) (take (length s - p) (drop p s))
      → n ≡ unwrap_or o (length (take (length s - p) (drop p s))) → Leaves s p (past f (drop p s)) (p + n)
  position_past s p n o h e k = record {
    rest = rw same (sym (drop-drop (prefix_len (λ b. not (not (f b))) (drop p s)) p s) ∙ past_prefix (drop p s));
    low = omega arith;
    high = omega (arith, same, prefix_len-le-length (λ b. not (not (f b))) (drop p s), length-drop p s);
  }
    where
      same : n ≡ prefix_len (λ b. not (not (f b))) (drop p s)
      same = rw take_rest at k ∙ rw (e, take_rest) (or_length _ _ (prefix_len-le-length (λ b. not (not (f b))) (drop p s)))

  -- and some byte is of the class where the library says so
  pub any_is : (l : List ℕ) → list_any f l ≡ any f l
  unfolding any
  any_is [] = refl
  any_is (b ∷ l) = rw (any_is l)

-- a class in another is passed over by it
pub past_past : (f g : ℕ → Bool) → In f g → (l : List ℕ) → past g (past f l) ≡ past g l
unfolding past
past_past f g i [] = refl
past_past f g i (b ∷ l) = go (f b) refl (past_past f g i l)
  where
    go : (q : Bool) → f b ≡ q → past g (past f l) ≡ past g l → past g (pick q (past f l) (b ∷ l)) ≡ past g (b ∷ l)
    go true e h = h ∙ sym (past_one g b l (i b e))
    go false e h = refl

pub starts_front : (f g : ℕ → Bool) → In f g → (l : List ℕ) → starts f (front g l) ≡ starts f l
unfolding front
starts_front f g i [] = refl
starts_front f g i (b ∷ l) = go (f b) (g b) refl refl
  where
    go : (p q : Bool) → f b ≡ p → g b ≡ q → starts f (pick q (b ∷ front g l) []) ≡ f b
    go p true d e = refl
    go false false d e = sym d
    go true false d e = cc (i b d)

pub any_past : (f g : ℕ → Bool) → Apart f g → (l : List ℕ) → any g (past f l) ≡ any g l
unfolding past any
any_past f g i [] = refl
any_past f g i (b ∷ l) = go (f b) refl (any_past f g i l)
  where
    go : (q : Bool) → f b ≡ q → any g (past f l) ≡ any g l → any g (pick q (past f l) (b ∷ l)) ≡ (g b || any g l)
    go true e h = h ∙ rw (i b e)
    go false e h = refl

-- ---- an optional sign

pub sign_none : (l : List ℕ) → starts is_sign l ≡ false → after_sign l ≡ l
unfolding after_sign
sign_none [] e = refl
sign_none (b ∷ l) e = rw e

pub sign_append : (l y : List ℕ) → starts is_text y ≡ false → after_sign (l ++ y) ≡ after_sign l ++ y
unfolding after_sign
sign_append [] y e = sign_none y (starts_less is_sign is_text sign_in y e)
sign_append (b ∷ l) y e = go (is_sign b)
  where
    go : (q : Bool) → pick q (l ++ y) (b ∷ (l ++ y)) ≡ pick q l (b ∷ l) ++ y
    go true = refl
    go false = refl

pub sign_past : (l : List ℕ) → past is_text (after_sign l) ≡ past is_text l
unfolding after_sign
sign_past [] = refl
sign_past (b ∷ l) = go (is_sign b) refl
  where
    go : (q : Bool) → is_sign b ≡ q → past is_text (pick q l (b ∷ l)) ≡ past is_text (b ∷ l)
    go true e = sym (past_one is_text b l (sign_in b e))
    go false e = refl

pub sign_any : (l : List ℕ) → any is_pointed (after_sign l) ≡ any is_pointed l
unfolding after_sign any
sign_any [] = refl
sign_any (b ∷ l) = go (is_sign b) refl
  where
    go : (q : Bool) → is_sign b ≡ q → any is_pointed (pick q l (b ∷ l)) ≡ (is_pointed b || any is_pointed l)
    go true e = rw (sign_apart b e)
    go false e = refl

-- a sign is no point and no exponent, and neither is a digit
pub rest_any : (l : List ℕ) → any is_pointed (past is_digit (after_sign l)) ≡ any is_pointed l
rest_any l = any_past is_digit is_pointed digit_apart (after_sign l) ∙ sign_any l

-- ---- each part of the grammar, with bytes behind that are no number text

-- what is left, with more bytes behind
abbrev pub then : List ℕ → Left → Left
then y none = none
then y (left x) = left (x ++ y)

then_pick : (y : List ℕ) (q : Bool) (a b : Left) → then y (pick q a b) ≡ pick q (then y a) (then y b)
then_pick y true a b = refl
then_pick y false a b = refl

module _ (y : List ℕ) (e : starts is_text y ≡ false) where
  no_digit : starts is_digit y ≡ false
  no_digit = starts_less is_digit is_text digit_in y e

  pub digits_append : (l : List ℕ) → past is_digit (l ++ y) ≡ past is_digit l ++ y
  digits_append l = past_append is_digit l y no_digit

  digits_then : (l : List ℕ) → digits_left (l ++ y) ≡ then y (digits_left l)
  unfolding digits_left
  digits_then l = rw (starts_append is_digit l y no_digit, digits_append l) (sym (then_pick y (starts is_digit l) (left (past is_digit l)) none))

  exponent_none : (l : List ℕ) → starts is_text l ≡ false → exponent_left l ≡ left l
  unfolding exponent_left
  exponent_none [] k = refl
  exponent_none (b ∷ l) k = rw (starts_less is_exponent is_text exponent_in (b ∷ l) k)

  exponent_then : (l : List ℕ) → exponent_left (l ++ y) ≡ then y (exponent_left l)
  unfolding exponent_left
  exponent_then [] = exponent_none y e
  exponent_then (b ∷ l) = go (is_exponent b)
    where
      go : (q : Bool) → pick q (digits_left (after_sign (l ++ y))) (left (b ∷ (l ++ y))) ≡ then y (pick q (digits_left (after_sign l)) (left (b ∷ l)))
      go true = ap digits_left (sign_append l y e) ∙ digits_then (after_sign l)
      go false = refl

  point_none : (some : Bool) (l : List ℕ) → starts is_text l ≡ false → point_left some l ≡ pick some (left l) none
  unfolding point_left
  point_none some [] k = refl
  point_none some (b ∷ l) k = rw (starts_less is_point is_text point_in (b ∷ l) k)

  point_then : (some : Bool) (l : List ℕ) → point_left some (l ++ y) ≡ then y (point_left some l)
  unfolding point_left
  point_then some [] = point_none some y e ∙ sym (then_pick y some (left []) none)
  point_then some (b ∷ l) = go (is_point b)
    where
      go : (q : Bool) → pick q (pick (some || starts is_digit (l ++ y)) (left (past is_digit (l ++ y))) none) (pick some (left (b ∷ (l ++ y))) none)
          ≡ then y (pick q (pick (some || starts is_digit l) (left (past is_digit l)) none) (pick some (left (b ∷ l)) none))
      go true = rw (starts_append is_digit l y no_digit, digits_append l) (sym (then_pick y (some || starts is_digit l) (left (past is_digit l)) none))
      go false = sym (then_pick y some (left (b ∷ l)) none)

  mantissa_then : (l : List ℕ) → mantissa_left (l ++ y) ≡ then y (mantissa_left l)
  unfolding mantissa_left
  mantissa_then l = rw (starts_append is_digit l y no_digit, digits_append l) (point_then (starts is_digit l) (past is_digit l))

  onward_then : (k : Left) → onward exponent_left (then y k) ≡ then y (onward exponent_left k)
  onward_then none = refl
  onward_then (left x) = exponent_then x

  pub double_then : (l : List ℕ) → double_left (l ++ y) ≡ then y (double_left l)
  unfolding double_left
  double_then l = ap (λ (k : List ℕ). onward exponent_left (mantissa_left k)) (sign_append l y e) ∙ ap (onward exponent_left) (mantissa_then (after_sign l)) ∙ onward_then (mantissa_left (after_sign l))

-- ---- a double passes over number text alone

pick_left : (q : Bool) (a x : List ℕ) → pick q (left a) none ≡ left x → a ≡ x
pick_left true a x e = cc
pick_left false a x e = cc

digits_past : (l x : List ℕ) → digits_left l ≡ left x → past is_text x ≡ past is_text l
unfolding digits_left
digits_past l x e = ap (past is_text) (sym (pick_left (starts is_digit l) (past is_digit l) x e)) ∙ past_past is_digit is_text digit_in l

exponent_past : (l x : List ℕ) → exponent_left l ≡ left x → past is_text x ≡ past is_text l
unfolding exponent_left
exponent_past [] x e = ap (past is_text) (let z : x ≡ [] = cc in z)
exponent_past (b ∷ l) x e = go (is_exponent b) refl e
  where
    go : (q : Bool) → is_exponent b ≡ q → pick q (digits_left (after_sign l)) (left (b ∷ l)) ≡ left x → past is_text x ≡ past is_text (b ∷ l)
    go true k e = digits_past (after_sign l) x e ∙ sign_past l ∙ sym (past_one is_text b l (exponent_in b k))
    go false k e = ap (past is_text) (let z : x ≡ b ∷ l = cc in z)

point_past : (some : Bool) (l x : List ℕ) → point_left some l ≡ left x → past is_text x ≡ past is_text l
unfolding point_left
point_past some [] x e = ap (past is_text) (sym (pick_left some [] x e))
point_past some (b ∷ l) x e = go (is_point b) refl e
  where
    go : (q : Bool) → is_point b ≡ q
        → pick q (pick (some || starts is_digit l) (left (past is_digit l)) none) (pick some (left (b ∷ l)) none) ≡ left x
        → past is_text x ≡ past is_text (b ∷ l)
    go true k e =
        ap (past is_text) (sym (pick_left (some || starts is_digit l) (past is_digit l) x e))
        ∙ past_past is_digit is_text digit_in l ∙ sym (past_one is_text b l (point_in b k))
    go false k e = ap (past is_text) (sym (pick_left some (b ∷ l) x e))

mantissa_past : (l x : List ℕ) → mantissa_left l ≡ left x → past is_text x ≡ past is_text l
unfolding mantissa_left
mantissa_past l x e = point_past (starts is_digit l) (past is_digit l) x e ∙ past_past is_digit is_text digit_in l

onward_past : (l : List ℕ) (k : Left) → mantissa_left l ≡ k → (x : List ℕ) → onward exponent_left k ≡ left x → past is_text x ≡ past is_text l
onward_past l none m x e = cc
onward_past l (left w) m x e = exponent_past w x e ∙ mantissa_past l w m

pub double_past : (l x : List ℕ) → double_left l ≡ left x → past is_text x ≡ past is_text l
unfolding double_left
double_past l x e = onward_past (after_sign l) (mantissa_left (after_sign l)) refl x e ∙ sign_past l
