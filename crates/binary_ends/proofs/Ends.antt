-- The second reader, which gives a token's end alone, agrees with the first. Assumes nothing.
use mathlib.Core.Path.{◌≡◌, refl, sym, ap, ◌∙◌}
use mathlib.Core.Bool.{Bool, true, false}
use mathlib.Core.List.{List}
use Prim.Native.Nat.{ℕ, ◌+◌, ◌-◌, ◌/◌, ◌%◌, ◌≤◌, ◌<◌}
use lib.Dec.{eqb, ltb}
use lib.ListN.{length, get_or}
use lib.Ieee.{binary64, of_bits}
use lib.IntN.{ℤ, pos, negsuc}
use borrow.Author.Tests.{lt-ltb, le-ltb, ne_eqb}
use Rattle.refusal.specs.Paper.{Paper, gives, more, refused, Got, got, Spot, spot, pick}
use Rattle.varint.specs.Varint.{uvarint_at, uvarint_end}
use Rattle.zigzag.specs.Zigzag.{signed}
use Rattle.varint.specs.Signed.{signed_answer, varint_at}
use Rattle.zigzag.proofs.Laws.{even, odd}
use Rattle.refusal.specs.Meaning.{unread_meaning}
use Rattle.refusal.specs.declared.Unread.{Unread}
use Rattle.refusal.specs.declared.Unread.TheVariants as u
use Rattle.token.specs.declared.Token.{Token}
use Rattle.token.specs.declared.Token.TheVariants.{BeginAttributes, EndAttributes, BeginList, EndList, BeginMap, EndMap, String, Escaped, Int64, Uint64, Double, Decimal, Boolean, Entity, KeyValueSeparator, ItemSeparator}
use Rattle.std.specs.Prelude.{Option, Some, None}
use Rattle.token.specs.Meaning.{kinds_of}
use Rattle.token.specs.Marks.{mark_of, of_mark}
use Rattle.token.specs.Ends.{end_of, string_end, scalar_end}
use Rattle.token.proofs.Ends.{holds, mark_no_string, mark_no_scalar}
use Rattle.binary.specs.Little.{little8}
use Rattle.binary.specs.Binary.{of_size, of_length, of_varint, double_at, marked, binary_from}
use Rattle.binary.proofs.Laws.{inside, unmarked}

abbrev Ends : Paper (Spot Token) → Type 0
Ends p = scalar_end (kinds_of p) ≡ end_of p

abbrev NoString : Paper (Spot Token) → Type 0
NoString p = string_end (kinds_of p) ≡ None

-- ---- a scalar's end is its token's end

module _ (s : List ℕ) (at : ℕ) where
  size_ends : (n : ℕ) (z : ℤ) → Ends (of_size s at n z)
  size_ends n (pos k) = holds Ends (ltb (length s - n) k) more (gives (spot (String n k) at (n + k))) refl refl
  size_ends n (negsuc k) = refl

  pub length_ends : (p : Paper (Got ℤ)) → Ends (of_length s at p)
  length_ends (gives (got k n)) = size_ends n k
  length_ends more = refl
  length_ends (refused n vs) = refl

  -- and a string's
  size_string : (n : ℕ) (z : ℤ) → string_end (kinds_of (of_size s at n z)) ≡ end_of (of_size s at n z)
  size_string n (pos k) = holds (λ (p : Paper (Spot Token)). string_end (kinds_of p) ≡ end_of p) (ltb (length s - n) k) more (gives (spot (String n k) at (n + k))) refl refl
  size_string n (negsuc k) = refl

  pub length_string : (p : Paper (Got ℤ)) → string_end (kinds_of (of_length s at p)) ≡ end_of (of_length s at p)
  length_string (gives (got k n)) = size_string n k
  length_string more = refl
  length_string (refused n vs) = refl

  int64_ends : (p : Paper (Got ℤ)) → Ends (of_varint at Int64 p)
  int64_ends (gives (got v n)) = refl
  int64_ends more = refl
  int64_ends (refused n vs) = refl

  uint64_ends : (p : Paper (Got ℕ)) → Ends (of_varint at Uint64 p)
  uint64_ends (gives (got v n)) = refl
  uint64_ends more = refl
  uint64_ends (refused n vs) = refl

  double_ends : Ends (double_at s at)
  unfolding double_at
  double_ends =
      holds Ends (ltb (length s - at) 9) more (gives (spot (Double (of_bits binary64 (little8 s (at + 1))) (little8 s (at + 1))) at (at + 9))) refl refl

  -- a number's end is its varint's
  int64_end : (p : Paper (Got ℕ)) → uvarint_end p ≡ scalar_end (kinds_of (of_varint at Int64 (signed_answer p)))
  int64_end (gives (got v n)) = refl
  int64_end more = refl
  int64_end (refused n vs) = refl

  pub int64_is : uvarint_end (uvarint_at s (at + 1)) ≡ scalar_end (kinds_of (marked s at 2))
  unfolding marked varint_at
  int64_is = int64_end (uvarint_at s (at + 1))

  uint64_end : (p : Paper (Got ℕ)) → uvarint_end p ≡ scalar_end (kinds_of (of_varint at Uint64 p))
  uint64_end (gives (got v n)) = refl
  uint64_end more = refl
  uint64_end (refused n vs) = refl

  pub uint64_is : uvarint_end (uvarint_at s (at + 1)) ≡ scalar_end (kinds_of (marked s at 6))
  unfolding marked
  uint64_is = uint64_end (uvarint_at s (at + 1))

  pub string_is : end_of (of_length s at (varint_at s (at + 1))) ≡ scalar_end (kinds_of (marked s at 1))
  unfolding marked
  string_is = sym (length_ends (varint_at s (at + 1)))

  pub double_is : end_of (double_at s at) ≡ scalar_end (kinds_of (marked s at 3))
  unfolding marked
  double_is = sym double_ends

  -- the scalar at a place, by its marker
  pub scalar_at : (b : ℕ) → at < length s → get_or s at 0 ≡ b → scalar_end (kinds_of (marked s at b)) ≡ scalar_end (kinds_of (binary_from s at))
  scalar_at b h e = sym (ap (λ (p : Paper (Spot Token)). scalar_end (kinds_of p)) (inside s at h ∙ ap (marked s at) e))

  -- the token of one byte at a place, by that byte
  pub one_byte : (b : ℕ) → at < length s → get_or s at 0 ≡ b → end_of (marked s at b) ≡ Some (at + 1) → Some (at + 1) ≡ end_of (binary_from s at)
  one_byte b h e m = sym (ap end_of (inside s at h ∙ ap (marked s at) e) ∙ m)

  -- ---- no string but behind 01

  int64_no : (p : Paper (Got ℤ)) → NoString (of_varint at Int64 p)
  int64_no (gives (got v n)) = refl
  int64_no more = refl
  int64_no (refused n vs) = refl

  uint64_no : (p : Paper (Got ℕ)) → NoString (of_varint at Uint64 p)
  uint64_no (gives (got v n)) = refl
  uint64_no more = refl
  uint64_no (refused n vs) = refl

  double_no : NoString (double_at s at)
  unfolding double_at
  double_no =
      holds NoString (ltb (length s - at) 9) more (gives (spot (Double (of_bits binary64 (little8 s (at + 1))) (little8 s (at + 1))) at (at + 9))) refl refl

  abbrev MarkEnds : Option Token → Type 0
  MarkEnds m = Ends (of_mark at m)

  pub no_string : (b : ℕ) → (b ≡ 1 → ⊥) → NoString (marked s at b)
  unfolding marked
  no_string b h =
      rw (ne_eqb b 1 h)
      (holds NoString (eqb b 2) _ _ (int64_no (varint_at s (at + 1)))
      (holds NoString (eqb b 3) _ _ double_no
      (holds NoString (eqb b 4) _ _ refl
      (holds NoString (eqb b 5) _ _ refl
      (holds NoString (eqb b 6) _ _ (uint64_no (uvarint_at s (at + 1))) (mark_no_string at b))))))

  -- ---- no scalar among the other marks, and nothing else ends

  pub no_scalar : (b : ℕ) → (b ≡ 1 → ⊥) → (b ≡ 2 → ⊥) → (b ≡ 3 → ⊥) → (b ≡ 4 → ⊥) → (b ≡ 5 → ⊥) → (b ≡ 6 → ⊥) → (b ≡ 0x23 → ⊥)
      → scalar_end (kinds_of (marked s at b)) ≡ None
  no_scalar b h₁ h₂ h₃ h₄ h₅ h₆ h₇ = ap (λ (p : Paper (Spot Token)). scalar_end (kinds_of p)) (unmarked s at b h₁ h₂ h₃ h₄ h₅ h₆) ∙ mark_no_scalar at b h₇

  pub rest_ends : (b : ℕ) → (b ≡ 0x3B → ⊥) → (b ≡ 0x3C → ⊥) → (b ≡ 0x3D → ⊥) → (b ≡ 0x3E → ⊥) → (b ≡ 0x5B → ⊥) → (b ≡ 0x5D → ⊥) → (b ≡ 0x7B → ⊥) → (b ≡ 0x7D → ⊥)
      → Ends (marked s at b)
  unfolding marked mark_of
  rest_ends b h₁ h₂ h₃ h₄ h₅ h₆ h₇ h₈ =
      rw (ne_eqb b 0x3B h₁, ne_eqb b 0x3C h₂, ne_eqb b 0x3D h₃, ne_eqb b 0x3E h₄, ne_eqb b 0x5B h₅, ne_eqb b 0x5D h₆, ne_eqb b 0x7B h₇, ne_eqb b 0x7D h₈)
      (holds Ends (eqb b 1) _ _ (length_ends (varint_at s (at + 1)))
      (holds Ends (eqb b 2) _ _ (int64_ends (varint_at s (at + 1)))
      (holds Ends (eqb b 3) _ _ double_ends
      (holds Ends (eqb b 4) _ _ refl
      (holds Ends (eqb b 5) _ _ refl
      (holds Ends (eqb b 6) _ _ (uint64_ends (uvarint_at s (at + 1)))
      (holds MarkEnds (eqb b 0x23) (Some Entity) None refl refl)))))))

-- an end that the scalar reader gives is the token's
pub end_of_scalar : (p : Paper (Spot Token)) (n : ℕ) → Some n ≡ scalar_end (kinds_of p) → Some n ≡ end_of p
end_of_scalar (gives (spot BeginAttributes first next)) n h = absurd cc
end_of_scalar (gives (spot EndAttributes first next)) n h = absurd cc
end_of_scalar (gives (spot BeginList first next)) n h = absurd cc
end_of_scalar (gives (spot EndList first next)) n h = absurd cc
end_of_scalar (gives (spot BeginMap first next)) n h = absurd cc
end_of_scalar (gives (spot EndMap first next)) n h = absurd cc
end_of_scalar (gives (spot (String x y) first next)) n h = h
end_of_scalar (gives (spot (Escaped x y) first next)) n h = h
end_of_scalar (gives (spot (Int64 z) first next)) n h = h
end_of_scalar (gives (spot (Uint64 x) first next)) n h = h
end_of_scalar (gives (spot (Double x y) first next)) n h = h
end_of_scalar (gives (spot (Decimal x y) first next)) n h = h
end_of_scalar (gives (spot (Boolean z) first next)) n h = h
end_of_scalar (gives (spot Entity first next)) n h = h
end_of_scalar (gives (spot KeyValueSeparator first next)) n h = absurd cc
end_of_scalar (gives (spot ItemSeparator first next)) n h = absurd cc
end_of_scalar more n h = h
end_of_scalar (refused m vs) n h = h

-- ---- a string's end, by its length

module _ (s : List ℕ) where
  -- the end does not depend on where the token starts
  pub anywhere : (a b n : ℕ) (z : ℤ) → end_of (of_size s a n z) ≡ end_of (of_size s b n z)
  anywhere a b n (pos k) = same (ltb (length s - n) k)
    where
      same : (q : Bool) → end_of (pick q more (gives (spot (String n k) a (n + k)))) ≡ end_of (pick q more (gives (spot (String n k) b (n + k))))
      same true = refl
      same false = refl
  anywhere a b n (negsuc k) = refl

  module _ (v n : ℕ) where
    pub odd_end : v % 2 ≡ 1 → end_of (of_size s 0 n (signed v)) ≡ None
    odd_end h = rw (odd v h)

    pub short_end : v % 2 ≡ 0 → length s - n < v / 2 → end_of (of_size s 0 n (signed v)) ≡ None
    short_end h k = rw (even v h, lt-ltb (length s - n) (v / 2) k)

    pub whole_end : v % 2 ≡ 0 → v / 2 ≤ length s - n → end_of (of_size s 0 n (signed v)) ≡ Some (n + v / 2)
    whole_end h k = rw (even v h, le-ltb (length s - n) (v / 2) k)

  module _ (at : ℕ) where
    pub by_length : (v n : ℕ) → uvarint_at s (at + 1) ≡ gives (got v n) → end_of (of_size s 0 n (signed v)) ≡ end_of (of_length s at (varint_at s (at + 1)))
    unfolding varint_at
    by_length v n e = anywhere 0 at n (signed v) ∙ ap (λ (p : Paper (Got ℕ)). end_of (of_length s at (signed_answer p))) (sym e)

    pub by_more : uvarint_at s (at + 1) ≡ more → None ≡ end_of (of_length s at (varint_at s (at + 1)))
    unfolding varint_at
    by_more e = ap (λ (p : Paper (Got ℕ)). end_of (of_length s at (signed_answer p))) (sym e)

    pub by_refused : (n : ℕ) (vs : List ℕ) → uvarint_at s (at + 1) ≡ refused n vs → None ≡ end_of (of_length s at (varint_at s (at + 1)))
    unfolding varint_at
    by_refused n vs e = ap (λ (p : Paper (Got ℕ)). end_of (of_length s at (signed_answer p))) (sym e)

    pub by_unread : (e : Unread) → uvarint_at s (at + 1) ≡ unread_meaning e → None ≡ end_of (of_length s at (varint_at s (at + 1)))
    by_unread u.Incomplete e = by_more e
    by_unread (u.Refused r) e = by_refused _ _ e
    by_unread u.Beyond e = by_refused _ _ e
