-- Ends of tokens, by their kind; and of marks. Assumes nothing.
use mathlib.Core.Path.{◌≡◌, refl}
use mathlib.Core.Bool.{Bool, true, false}
use Prim.Native.Nat.{ℕ}
use lib.Dec.{eqb}
use borrow.Author.Tests.{ne_eqb}
use Rattle.refusal.specs.Paper.{Paper, gives, more, refused, Spot, spot, pick}
use Rattle.token.specs.declared.Token.{Token}
use Rattle.token.specs.declared.Kind.{Kind}
use Rattle.token.specs.declared.Kind.TheVariants.{Text, Scalar}
use Rattle.std.specs.Prelude.{Option, None}
use Rattle.token.specs.Meaning.{kind_of, kinds_of}
use Rattle.token.specs.Marks.{mark_of, of_mark}
use Rattle.token.specs.Ends.{end_of, string_end, scalar_end}

-- what holds of both holds of the one that is picked
pub holds : {A : Type 0} (P : A → Type 0) (q : Bool) (a b : A) → P a → P b → P (pick q a b)
holds P true a b x y = x
holds P false a b x y = y

-- every token of an answer is of one kind
abbrev pub All : Kind → Paper (Spot Token) → Type 0
All k p = (t : Token) (first next : ℕ) → p ≡ gives (spot t first next) → kind_of t ≡ k

pub strings_end : (p : Paper (Spot Token)) → All Text p → string_end (kinds_of p) ≡ end_of p
strings_end (gives (spot t first next)) f = rw (f t first next refl)
strings_end more f = refl
strings_end (refused n vs) f = refl

pub strings_scalar : (p : Paper (Spot Token)) → All Text p → scalar_end (kinds_of p) ≡ end_of p
strings_scalar (gives (spot t first next)) f = rw (f t first next refl)
strings_scalar more f = refl
strings_scalar (refused n vs) f = refl

pub scalars_end : (p : Paper (Spot Token)) → All Scalar p → scalar_end (kinds_of p) ≡ end_of p
scalars_end (gives (spot t first next)) f = rw (f t first next refl)
scalars_end more f = refl
scalars_end (refused n vs) f = refl

pub scalars_string : (p : Paper (Spot Token)) → All Scalar p → string_end (kinds_of p) ≡ None
scalars_string (gives (spot t first next)) f = rw (f t first next refl)
scalars_string more f = refl
scalars_string (refused n vs) f = refl

-- no mark is a string, and `#` is the only other scalar among them
module _ (at b : ℕ) where
  abbrev NoString : Option Token → Type 0
  NoString m = string_end (kinds_of (of_mark at m)) ≡ None

  pub mark_no_string : string_end (kinds_of (of_mark at (mark_of b))) ≡ None
  unfolding mark_of
  mark_no_string =
      holds NoString (eqb b 0x23) _ _ refl (holds NoString (eqb b 0x3B) _ _ refl (holds NoString (eqb b 0x3C) _ _ refl (holds NoString (eqb b 0x3D) _ _ refl (holds NoString (eqb b 0x3E) _ _ refl (holds NoString (eqb b 0x5B) _ _ refl (holds NoString (eqb b 0x5D) _ _ refl (holds NoString (eqb b 0x7B) _ _ refl (holds NoString (eqb b 0x7D) _ _ refl refl))))))))

  abbrev NoScalar : Option Token → Type 0
  NoScalar m = scalar_end (kinds_of (of_mark at m)) ≡ None

  pub mark_no_scalar : (b ≡ 0x23 → ⊥) → scalar_end (kinds_of (of_mark at (mark_of b))) ≡ None
  unfolding mark_of
  mark_no_scalar h =
      rw (ne_eqb b 0x23 h)
      (holds NoScalar (eqb b 0x3B) _ _ refl (holds NoScalar (eqb b 0x3C) _ _ refl (holds NoScalar (eqb b 0x3D) _ _ refl (holds NoScalar (eqb b 0x3E) _ _ refl (holds NoScalar (eqb b 0x5B) _ _ refl (holds NoScalar (eqb b 0x5D) _ _ refl (holds NoScalar (eqb b 0x7B) _ _ refl (holds NoScalar (eqb b 0x7D) _ _ refl refl))))))))
