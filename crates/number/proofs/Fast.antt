-- Where one walk over a number settles its end: few digits, or a double, with no number text behind. Assumes nothing.
use mathlib.Core.Path.{◌≡◌, refl, sym, ap, ◌∙◌}
use mathlib.Core.Bool.{Bool, true, false}
use mathlib.Core.List.{List, [], ◌∷◌, ◌++◌}
use Prim.Native.Nat.{ℕ, ◌+◌, ◌-◌, ◌^◌, ◌≤◌, ◌<◌}
use native.Mathlib.Omega.{arith}
use lib.Dec.{lit≤}
use lib.ListN.{length, get_or, drop, length-append, length-drop}
use Rattle.refusal.specs.Paper.{pick}
use Rattle.token.specs.Digits.{is_digit}
use Rattle.number.specs.Bytes.{is_minus, is_sign, is_pointed, is_text, is_unsigned, starts, any}
use Rattle.number.specs.Grammar.{front, past, after_sign, Left, none, left, onward, spent, mantissa_left, exponent_left, double_left, is_up_to, is_double}
use Rattle.token.specs.Ends.{end_of}
use Rattle.number.specs.Number.{is_uint64, is_int64, uint64_text, double_text, int64_text, number_at}
use Rattle.number.specs.Places.{Leaves, MayLeave, Whole}
use Rattle.number.proofs.Classes.{digit_in, minus_in, pointed_in, unsigned_apart, starts_less, starts_apart}
use Rattle.number.proofs.Runs.{front_past, past_stops, past_none, past_past, all_past, starts_append, starts_front, sign_append, sign_past, rest_any, then, digits_append, double_then, double_past}
use Rattle.number.proofs.Ends.{starts_at, some_run}
use Rattle.std.specs.Prelude.{Some}
use Rattle.number.proofs.Values.{few_digits}
use Rattle.number.proofs.Tokens.{text_uint, text_double, text_int}

append_none : (z x : List ℕ) → z ++ x ≡ x → z ≡ []
append_none [] x e = refl
append_none (b ∷ z) x e = absurd (omega (arith, simp length-append at (ap length e)))

spent_then : (y : List ℕ) (k : Left) → then y k ≡ left y → spent k ≡ true
spent_then y none e = cc
spent_then y (left x) e = ap (λ (k : List ℕ). spent (left k)) (append_none x y (let z : x ++ y ≡ y = cc in z))

starts_any : (f : ℕ → Bool) (l : List ℕ) → starts f l ≡ true → any f l ≡ true
unfolding any
starts_any f [] e = e
starts_any f (b ∷ l) e = rw e

-- the end of an answer, where the text is good
uint_end : (at next : ℕ) (l : List ℕ) → is_uint64 l ≡ true → Some next ≡ end_of (uint64_text at next l)
unfolding uint64_text
uint_end at next l e = rw e

int_end : (at next : ℕ) (l : List ℕ) → is_int64 l ≡ true → Some next ≡ end_of (int64_text at next l)
unfolding int64_text
int_end at next l e = rw e

double_end : (at next : ℕ) (l : List ℕ) → is_double l ≡ true → Some next ≡ end_of (double_text at next l)
unfolding double_text
double_end at next l e = rw e

is_uint : (l : List ℕ) → starts is_minus l ≡ false → is_up_to (2 ^ 64 - 1) (after_sign l) ≡ true → is_uint64 l ≡ true
unfolding is_uint64
is_uint l m e = rw (m, e)

is_int : (l : List ℕ) → is_up_to (2 ^ 63) (after_sign l) ≡ true → is_up_to (2 ^ 63 - 1) (after_sign l) ≡ true → is_int64 l ≡ true
unfolding is_int64
is_int l e f = go (starts is_minus l)
  where
    go : (q : Bool) → pick q (is_up_to (2 ^ 63) (after_sign l)) (is_up_to (2 ^ 63 - 1) (after_sign l)) ≡ true
    go true = e
    go false = f

-- the sign ends at a, and the digits behind it at b
module _ (s : List ℕ) (at a b : ℕ) (ae : Leaves s at (after_sign (drop at s)) a) (be : Leaves s a (past is_digit (drop a s)) b) where
  text : List ℕ
  text = front is_text (drop at s)

  rest_is : past is_digit (after_sign (drop at s)) ≡ drop b s
  rest_is = ap (past is_digit) (sym ae.rest) ∙ sym be.rest

  -- number text ends at e, be it b or a place behind it
  module _ (e : ℕ) (n : starts is_text (drop e s) ≡ false) (ee : past is_text (drop at s) ≡ drop e s) where
    both : text ++ drop e s ≡ drop at s
    unfolding text
    both = rw (← ee) (front_past is_text (drop at s))

    sign_both : after_sign text ++ drop e s ≡ drop a s
    sign_both = sym (sign_append text (drop e s) n) ∙ ap after_sign both ∙ sym ae.rest

    digits_both : past is_digit (after_sign text) ++ drop e s ≡ drop b s
    digits_both = sym (digits_append (drop e s) n (after_sign text)) ∙ ap (past is_digit) (sign_both ∙ ae.rest) ∙ rest_is

  -- ---- digits, and no number text behind them

  -- a byte behind the digits is none of them, and with no sign, no point and no exponent it is no number text
  pub bare : (h : b < length s) → is_sign (get_or s b 0) ≡ false → is_pointed (get_or s b 0) ≡ false → starts is_text (drop b s) ≡ false
  unfolding is_text
  bare h e f = starts_at s b h is_text ∙ rw (sym (starts_at s b h is_digit) ∙ ap (starts is_digit) be.rest ∙ past_stops is_digit (drop a s), e, f)

  module _ (n : starts is_text (drop b s) ≡ false) where
    ends_here : past is_text (drop at s) ≡ drop b s
    ends_here = sym (sign_past (drop at s)) ∙ sym (past_past is_digit is_text digit_in (after_sign (drop at s))) ∙ ap (past is_text) rest_is ∙ past_none is_text (drop b s) n

    no_more : past is_digit (after_sign text) ≡ []
    no_more = append_none (past is_digit (after_sign text)) (drop b s) (digits_both b n ends_here)

    not_pointed : any is_pointed text ≡ false
    unfolding any
    not_pointed = sym (rest_any text) ∙ ap (any is_pointed) no_more

    module _ (h : a < b) where
      within : b ≤ length s
      within = omega (arith, be.high)

      some : starts is_digit (after_sign text) ≡ true
      some = sym (starts_append is_digit (after_sign text) (drop b s) (starts_less is_digit is_text digit_in (drop b s) n)) ∙ ap (starts is_digit) (sign_both b n ends_here) ∙ some_run is_digit s a b be h

      count : length (after_sign text) ≡ b - a
      count = omega (arith, within, simp (length-append, length-drop) at (ap length (sign_both b n ends_here)))

      few : (limit k : ℕ) → b - a ≤ k → 10 ^ k ≤ limit → is_up_to limit (after_sign text) ≡ true
      few limit k c l = few_digits limit k (after_sign text) some (all_past is_digit (after_sign text) no_more) (omega (arith, count)) l

      pub fast_int : b - a ≤ 18 → starts is_unsigned (drop b s) ≡ false → Some b ≡ end_of (number_at s at)
      unfolding text
      fast_int c u =
          int_end at b text (is_int text (few (2 ^ 63) 18 c (lit≤ tt)) (few (2 ^ 63 - 1) 18 c (lit≤ tt)))
          ∙ ap end_of (text_int s at (omega (arith, within, ae.low)) b (omega (arith, ae.low)) within (sym ends_here) u not_pointed)

      fast_uint : b - a ≤ 19 → starts is_unsigned (drop b s) ≡ true → starts is_minus (drop at s) ≡ false → Some (b + 1) ≡ end_of (number_at s at)
      unfolding text
      fast_uint c u m =
          uint_end at (b + 1) text (is_uint text (starts_front is_minus is_text minus_in (drop at s) ∙ m) (few (2 ^ 64 - 1) 19 c (lit≤ tt)))
          ∙ ap end_of (text_uint s at (omega (arith, within, ae.low)) b (omega (arith, ae.low)) within (sym ends_here) u)

  pub fast_unsigned : starts is_unsigned (drop b s) ≡ true → a < b → b - a ≤ 19 → starts is_minus (drop at s) ≡ false → Some (b + 1) ≡ end_of (number_at s at)
  fast_unsigned u h c m = fast_uint (starts_apart is_unsigned is_text unsigned_apart (drop b s) u) h c u m

  -- ---- a double, and no number text behind it

  module _ (h : b < length s) (p : is_pointed (get_or s b 0) ≡ true) (q : ℕ) (qe : MayLeave s a (onward exponent_left (mantissa_left (drop a s))) (Some q)) (w : Whole s q) where
    left_is : double_left (drop at s) ≡ left (drop q s)
    unfolding double_left
    left_is = ap (λ (k : List ℕ). onward exponent_left (mantissa_left k)) (sym ae.rest) ∙ sym qe.rest

    ends_there : past is_text (drop at s) ≡ drop q s
    ends_there = sym (double_past (drop at s) (drop q s) left_is) ∙ past_none is_text (drop q s) w.stops

    is_double_lem : is_double text ≡ true
    unfolding is_double
    is_double_lem = spent_then (drop q s) (double_left text) (sym (double_then (drop q s) w.stops text) ∙ ap double_left (both q w.stops ends_there) ∙ left_is)

    has_point : any is_pointed text ≡ true
    has_point = sym (rest_any text) ∙ starts_any is_pointed (past is_digit (after_sign text))
        (sym (starts_append is_pointed (past is_digit (after_sign text)) (drop q s) (starts_less is_pointed is_text pointed_in (drop q s) w.stops))
        ∙ ap (starts is_pointed) (digits_both q w.stops ends_there) ∙ starts_at s b h is_pointed ∙ p)

    low : at ≤ q
    low = omega (arith, simp (length-append, length-drop) at (ap length (both q w.stops ends_there)), ae.low, be.low, qe.high)

    pub fast_double : Some q ≡ end_of (number_at s at)
    unfolding text
    fast_double =
        double_end at q text is_double_lem
        ∙ ap end_of (text_double s at (omega (arith, ae.low, be.low)) q low (omega (arith, qe.high, be.low)) (sym ends_there) w.signed has_point)
