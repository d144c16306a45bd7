-- Laws of the quoted string at a place, for callers: where its token starts and ends, what may be refused there, and what the end
-- alone tells.
use mathlib.Core.Path.{◌≡◌, refl, sym, ap, ap₂, ◌∙◌}
use mathlib.Core.Bool.{Bool, true, false}
use mathlib.Core.List.{List, [], ◌∷◌}
use mathlib.Core.Logic.{◌⊎◌, inl, inr}
use Prim.Native.Nat.{ℕ, suc, ◌+◌, ◌-◌, ◌≤◌, ◌<◌}
use native.Mathlib.Omega.{arith}
use borrow.Author.Tests.{ltb-true, eqb-true, eqb-false}
use lib.Dec.{ltb, leb, eqb}
use Rattle.std.specs.Prelude.{Some}
use lib.ListN.{length, drop, take, length-drop}
use Rattle.refusal.specs.Numbers.{beyond_slice, bad_hex_escape}
use Rattle.refusal.specs.Paper.{Paper, gives, more, refused, Spot, spot, pick}
use Rattle.token.specs.Meaning.{kind_of, kinds_of, extent_of}
use Rattle.token.specs.declared.Token.{Token}
use Rattle.token.specs.declared.Token.TheVariants.{String, Escaped}
use Rattle.token.specs.declared.Extent.TheVariants.{Plain}
use Rattle.token.specs.declared.Kind.{Kind}
use Rattle.token.specs.declared.Kind.TheVariants.{Text}
use Rattle.pieces.specs.Bytes.{backslash}
use Rattle.pieces.specs.Pieces.{End, closed, bad_hex, cut, Walk, walk}
use Rattle.pieces.proofs.Walks.{walk_quote_cons, walk_plain_cons}
use Rattle.std.specs.Prelude.{Some, None}
use Rattle.token.specs.Ends.{end_of}
use Rattle.quoted.specs.Quoted.{Closing, closes_at, unclosed, closing, stands, token_of, judged, closed_as, quoted_at, quoted_bytes}
use Rattle.quoted.proofs.Plain.{stands_at}
use Rattle.quoted.proofs.Answers.{closing_lies, hidden_lies, way_end, way_beyond}

-- the token of the quoted string whose opening quote stands at a place, among so many bytes
pub record Found (bytes at : ℕ) (t : Token) (first next : ℕ) : Type 0 where
  -- it starts there, and ends behind, among the bytes
  pub here : first ≡ at
  pub past : at < next
  pub lies : next ≤ bytes
  -- it is what stands between the quotes
  pub len : ℕ
  pub token : (t ≡ String (at + 1) len) ⊎ (t ≡ Escaped (at + 1) len)
  pub extent : at + 1 + len + 1 ≡ next
  -- the scan sees a string
  pub kind : kind_of t ≡ Text

-- what an answer says of the string at a place
abbrev Says : ℕ → ℕ → Paper (Spot Token) → Type 0
Says bytes at (gives (spot t first next)) = Found bytes at t first next
Says bytes at more = Unit
Says bytes at (refused n vs) = ((n ≡ bad_hex_escape) × (vs ≡ at ∷ []) × (at < bytes)) ⊎ ((n ≡ beyond_slice) × (vs ≡ []) × (bytes < at))

module _ (s : List ℕ) (at : ℕ) where
  says_token : (q : ℕ) → at + 1 ≤ q → q < length s → (b : Bool)
      → Found (length s) at (pick b (Escaped (at + 1) (q - (at + 1))) (String (at + 1) (q - (at + 1)))) at (q + 1)
  says_token q i j true =
      record { here = refl; past = omega arith; lies = omega arith; len = q - (at + 1); token = inr refl; extent = omega arith; kind = refl }
  says_token q i j false =
      record { here = refl; past = omega arith; lies = omega arith; len = q - (at + 1); token = inl refl; extent = omega arith; kind = refl }

  says_judged : (q : ℕ) → at + 1 ≤ q → q < length s → (x : End) → Says (length s) at (judged x at (token_of s (at + 1) (q - (at + 1))) (q + 1))
  says_judged q i j closed = says_token q i j (stands backslash (take (q - (at + 1)) (drop (at + 1) s)))
  says_judged q i j bad_hex = inl (refl, refl, omega arith)
  says_judged q i j cut = tt

  says_closed : (c : Closing) → closing (at + 1) (drop (at + 1) s) ≡ c → Says (length s) at (closed_as s at c)
  says_closed (closes_at q) e =
      let z = closing_lies (at + 1) (drop (at + 1) s) q e in
      says_judged q z.0 (omega (arith, length-drop (at + 1) s)) (walk 0 (drop (at + 1) s)).end
  says_closed unclosed e = tt

  says : Says (length s) at (quoted_at s at)
  unfolding quoted_at
  says = go (ltb (length s) at) (leb (length s) at) refl refl
    where
      go : (t u : Bool) → ltb (length s) at ≡ t → leb (length s) at ≡ u
          → Says (length s) at (pick t (refused beyond_slice []) (pick u more (closed_as s at (closing (at + 1) (drop (at + 1) s)))))
      go true u e f = inr (refl, refl, ltb-true _ _ e)
      go false true e f = tt
      go false false e f = says_closed _ refl

  -- a token that is given
  pub quoted_gives : (t : Token) (first next : ℕ) → quoted_at s at ≡ gives (spot t first next) → Found (length s) at t first next
  quoted_gives t first next e = rw e at says

  -- a refusal is the bad escape at the opening quote, or the place lies beyond the bytes
  pub quoted_refuses : (n : ℕ) (vs : List ℕ) → quoted_at s at ≡ refused n vs
      → ((n ≡ bad_hex_escape) × (vs ≡ at ∷ []) × (at < length s)) ⊎ ((n ≡ beyond_slice) × (vs ≡ []) × (length s < at))
  quoted_refuses n vs e = rw e at says

  -- at the end more bytes are needed
  pub quoted_at_end : length s ≡ at → quoted_at s at ≡ more
  quoted_at_end e = way_end s at e

  -- and beyond it the place is refused
  pub quoted_beyond : length s < at → quoted_at s at ≡ refused beyond_slice []
  quoted_beyond h = way_beyond s at h

  -- an end is that of a string
  pub end_is_string : (n : ℕ) → end_of (quoted_at s at) ≡ Some n → kinds_of (quoted_at s at) ≡ gives (spot Text at n)
  end_is_string n e = go (quoted_at s at) says e
    where
      go : (x : Paper (Spot Token)) → Says (length s) at x → end_of x ≡ Some n → kinds_of x ≡ gives (spot Text at n)
      go (gives (spot t first next)) f m = let i : next ≡ n = cc in ap₂ (λ (k : Kind) (p : ℕ). gives (spot k p next)) f.kind f.here ∙ ap (λ (m : ℕ). gives (spot Text at m)) i
      go more f m = absurd cc
      go (refused k vs) f m = absurd cc

  -- where there is none no string is given
  pub end_is_none : end_of (quoted_at s at) ≡ None → (t : Token) (first next : ℕ) → quoted_at s at ≡ gives (spot t first next) → ⊥
  end_is_none z t first next e = let c : Some next ≡ None = sym (ap end_of e) ∙ z in cc

  -- the end lies among the bytes
  pub end_lies : (n : ℕ) → end_of (quoted_at s at) ≡ Some n → n ≤ length s
  end_lies n e = go (quoted_at s at) says e
    where
      go : (x : Paper (Spot Token)) → Says (length s) at x → end_of x ≡ Some n → n ≤ length s
      go (gives (spot t first next)) f m = let i : next ≡ n = cc in rw i at f.lies
      go more f m = absurd cc
      go (refused k vs) f m = absurd cc

  -- and past the opening quote
  pub end_past : (n : ℕ) → end_of (quoted_at s at) ≡ Some n → at < n
  end_past n e = go (quoted_at s at) says e
    where
      go : (x : Paper (Spot Token)) → Says (length s) at x → end_of x ≡ Some n → at < n
      go (gives (spot t first next)) f m = let i : next ≡ n = cc in rw i at f.past
      go more f m = absurd cc
      go (refused k vs) f m = absurd cc

-- ---- what a string that is given has between its quotes

-- the place of its closing quote, from which its token follows
pub record Ended (s : List ℕ) (at : ℕ) (t : Token) : Type 0 where
  pub quote_at : ℕ
  pub closes : closing (at + 1) (drop (at + 1) s) ≡ closes_at quote_at
  pub whole : (walk 0 (drop (at + 1) s)).end ≡ closed
  pub token : t ≡ token_of s (at + 1) (quote_at - (at + 1))

abbrev SaysEnded : List ℕ → ℕ → Paper (Spot Token) → Type 0
SaysEnded s at (gives (spot t first next)) = Ended s at t
SaysEnded s at more = Unit
SaysEnded s at (refused n vs) = Unit

module _ (s : List ℕ) (at : ℕ) where
  ended_closed : (c : Closing) (x : End) → closing (at + 1) (drop (at + 1) s) ≡ c → (walk 0 (drop (at + 1) s)).end ≡ x → SaysEnded s at (closed_as s at c)
  ended_closed (closes_at q) closed e f = rw f (record { quote_at = q; closes = e; whole = f; token = refl })
  ended_closed (closes_at q) bad_hex e f = rw f tt
  ended_closed (closes_at q) cut e f = rw f tt
  ended_closed unclosed x e f = tt

  ended_says : SaysEnded s at (quoted_at s at)
  unfolding quoted_at
  ended_says = go (ltb (length s) at) (leb (length s) at)
    where
      go : (t u : Bool) → SaysEnded s at (pick t (refused beyond_slice []) (pick u more (closed_as s at (closing (at + 1) (drop (at + 1) s)))))
      go true u = tt
      go false true = tt
      go false false = ended_closed _ _ refl refl

  pub quoted_ended : (t : Token) (first next : ℕ) → quoted_at s at ≡ gives (spot t first next) → Ended s at t
  quoted_ended t first next e = rw e at ended_says

-- with no backslash before the closing quote the bytes stand as they are
plain_bytes : (p : ℕ) (l : List ℕ) (q : ℕ) → closing p l ≡ closes_at q → stands backslash (take (q - p) l) ≡ false → (walk 0 l).bytes ≡ take (q - p) l
unfolding closing stands
plain_bytes p [] q e n = cc
plain_bytes p (b ∷ l) q e n = go (plain_bytes (p + 1) l q) (eqb b 34) (eqb b 92) refl refl
  where
    go : (closing (p + 1) l ≡ closes_at q → stands backslash (take (q - (p + 1)) l) ≡ false → (walk 0 l).bytes ≡ take (q - (p + 1)) l)
        → (t u : Bool) → eqb b 34 ≡ t → eqb b 92 ≡ u → (walk 0 (b ∷ l)).bytes ≡ take (q - p) (b ∷ l)
    go i true u f g = rw (none (rw f at e)) (ap (λ (w : Walk). w.bytes) (walk_quote_cons b l (eqb-true _ _ f)))
      where
        none : closes_at p ≡ closes_at q → q - p ≡ 0
        none x = let z : p ≡ q = cc in omega arith
    go i false true f g = absurd (hid (hidden_lies (p + 1) l q (rw (f, g) at e)))
      where
        hid : (p + 1 + 1 ≤ q) × (q < p + 1 + length l) → ⊥
        hid z =
            let x : true ≡ false = sym (stands_at backslash (b ∷ l) 0 (q - p) (omega arith) (omega arith) (eqb-true _ _ g)) ∙ n in
            cc
    go i false false f g =
        let c = rw (f, g) at e in
        let z = closing_lies (p + 1) l q c in
        let d : q - p ≡ suc (q - (p + 1)) = omega arith in
        rw d
        (ap (λ (w : Walk). w.bytes) (walk_plain_cons b l (eqb-false _ _ f) (eqb-false _ _ g))
        ∙ ap (λ (m : List ℕ). b ∷ m) (i c (rest (rw d at n))))
      where
        rest : stands backslash (b ∷ take (q - (p + 1)) l) ≡ false → stands backslash (take (q - (p + 1)) l) ≡ false
        rest m = rw g at m

-- so the bytes of a string whose token says where they stand
pub string_bytes : (s : List ℕ) (at : ℕ) (t : Token) (first next start len : ℕ) → quoted_at s at ≡ gives (spot t first next)
    → extent_of t ≡ Some (Plain start len) → quoted_bytes s at ≡ take len (drop start s)
unfolding quoted_bytes
string_bytes s at t first next start len e x = go (quoted_ended s at t first next e)
  where
    go : Ended s at t → (walk 0 (drop (at + 1) s)).bytes ≡ take len (drop start s)
    go r = both (stands backslash (take (r.quote_at - (at + 1)) (drop (at + 1) s))) refl (sym (ap extent_of r.token) ∙ x)
      where
        both : (b : Bool) → stands backslash (take (r.quote_at - (at + 1)) (drop (at + 1) s)) ≡ b
            → extent_of (pick b (Escaped (at + 1) (r.quote_at - (at + 1))) (String (at + 1) (r.quote_at - (at + 1)))) ≡ Some (Plain start len)
            → (walk 0 (drop (at + 1) s)).bytes ≡ take len (drop start s)
        both true n f = cc
        both false n f =
            let a : at + 1 ≡ start = cc in
            let l : r.quote_at - (at + 1) ≡ len = cc in
            plain_bytes (at + 1) (drop (at + 1) s) r.quote_at r.closes n ∙ ap₂ (λ (k : ℕ) (p : ℕ). take k (drop p s)) l a
