-- One law for each way through the definition of the quoted string at a place, from what the private functions answer.
use mathlib.Core.Path.{◌≡◌, refl, sym, ap, ◌∙◌}
use mathlib.Core.Bool.{Bool, true, false}
use mathlib.Core.List.{List, [], ◌∷◌}
use Prim.Native.Nat.{ℕ, suc, ◌+◌, ◌-◌, ◌≤◌, ◌<◌}
use native.Mathlib.Omega.{arith}
use borrow.Author.Tests.{lt-ltb, le-ltb, lt-leb, le-leb}
use lib.Dec.{eqb, ltb}
use lib.ListN.{length, get_or, drop, take, length-drop}
use lib.Seq.{drop-drop, get_or-drop}
use Rattle.refusal.specs.Numbers.{beyond_slice, bad_hex_escape}
use Rattle.refusal.specs.Paper.{gives, more, refused, spot}
use Rattle.std.specs.Prelude.{None}
use Rattle.token.specs.Ends.{end_of}
use Rattle.token.specs.declared.Token.TheVariants.{String, Escaped}
use Rattle.pieces.specs.Pieces.{End, closed, bad_hex, cut, Walk, walk}
use Rattle.pieces.specs.Answers.{measure_of}
use Rattle.pieces.specs.declared.Broken.TheVariants.{Cut, Bad}
use Rattle.std.proofs.lemmas.List.{drop_more}
use Rattle.std.specs.Prelude.{Ok, Err}
use Rattle.pieces.proofs.Walks.{walk_quote, told_broken, told_closed}
use Rattle.quoted.specs.Quoted.{closes_at, unclosed, closing, hidden, stands, judged, closed_as, quoted_at}
use Rattle.quoted.specs.Inside.{plain, Opens}
use Rattle.quoted.proofs.Places.{close_out, close_quote}
use Rattle.quoted.proofs.Plain.{ahead, plain_closing, plain_walk, plain_none, plain_stops, stands_at}

-- the closing quote of a list that starts at p lies in that list
mutual
  unfolding closing

  pub closing_lies : (p : ℕ) (l : List ℕ) (q : ℕ) → closing p l ≡ closes_at q → (p ≤ q) × (q < p + length l)
  closing_lies p [] q e = cc
  closing_lies p (b ∷ l) q e = go (λ x. hidden_lies (p + 1) l q x) (λ x. closing_lies (p + 1) l q x) (eqb b 34) (eqb b 92) refl refl
    where
      go : (hidden (p + 1) l ≡ closes_at q → (p + 1 + 1 ≤ q) × (q < p + 1 + length l)) → (closing (p + 1) l ≡ closes_at q → (p + 1 ≤ q) × (q < p + 1 + length l))
          → (t u : Bool) → eqb b 34 ≡ t → eqb b 92 ≡ u → (p ≤ q) × (q < p + suc (length l))
      go i j true u f g = let z : p ≡ q = here (rw f at e) in (omega arith, omega arith)
        where
          here : closes_at p ≡ closes_at q → p ≡ q
          here x = cc
      go i j false true f g = let z = i (rw (f, g) at e) in (omega arith, omega arith)
      go i j false false f g = let z = j (rw (f, g) at e) in (omega arith, omega arith)

  pub hidden_lies : (p : ℕ) (l : List ℕ) (q : ℕ) → hidden p l ≡ closes_at q → (p + 1 ≤ q) × (q < p + length l)
  hidden_lies p [] q e = cc
  hidden_lies p (b ∷ l) q e = let z = closing_lies (p + 1) l q e in (z.0, omega arith)

-- from a backslash on it lies beyond it
past_backslash : (s : List ℕ) (p q : ℕ) → p < length s → get_or s p 0 ≡ 92 → closing p (drop p s) ≡ closes_at q → p < q
unfolding closing
past_backslash s p q h b e = let z = hidden_lies (p + 1) (drop (p + 1) s) q (rw (drop_more s p 0 h, b) at e) in omega arith

module _ (s : List ℕ) (at : ℕ) where
  pub way_beyond : length s < at → quoted_at s at ≡ refused beyond_slice []
  unfolding quoted_at
  way_beyond h = rw (lt-ltb _ _ h)

  pub way_end : length s ≡ at → quoted_at s at ≡ more
  unfolding quoted_at
  way_end e = rw (le-ltb (length s) at (omega arith), le-leb (length s) at (omega arith))

  pub no_end : length s ≤ at → None ≡ end_of (quoted_at s at)
  unfolding quoted_at
  no_end h = go (ltb (length s) at) refl
    where
      go : (t : Bool) → ltb (length s) at ≡ t → None ≡ end_of (quoted_at s at)
      go true e = rw e
      go false e = rw (e, le-leb _ _ h)

  pub within : at < length s → quoted_at s at ≡ closed_as s at (closing (at + 1) (drop (at + 1) s))
  unfolding quoted_at
  within h = rw (le-ltb (length s) at (omega arith), lt-leb _ _ h)

  -- p is the first place of a quote or a backslash, or the end
  module _ (p : ℕ) (e : p ≡ at + 1 + plain (drop (at + 1) s)) where
    from_there : drop (plain (drop (at + 1) s)) (drop (at + 1) s) ≡ drop p s
    from_there = drop-drop (plain (drop (at + 1) s)) (at + 1) s ∙ ap (λ (n : ℕ). drop n s) (sym e)

    same_closing : closing (at + 1) (drop (at + 1) s) ≡ closing p (drop p s)
    same_closing = plain_closing (at + 1) (drop (at + 1) s) ∙ rw (from_there, e)

    same_end : (walk 0 (drop (at + 1) s)).end ≡ (walk 0 (drop p s)).end
    same_end =
        ap (λ (w : Walk). w.end)
        (plain_walk (drop (at + 1) s) ∙ ap (λ (l : List ℕ). ahead (take (plain (drop (at + 1) s)) (drop (at + 1) s)) (walk 0 l)) from_there)

    open_is : at < length s → length s ≤ p → quoted_at s at ≡ more
    open_is h l = within h ∙ ap (closed_as s at) (same_closing ∙ sym (close_out s p l))

    plain_is : at < length s → p < length s → get_or s p 0 ≡ 34 → quoted_at s at ≡ gives (spot (String (at + 1) (p - (at + 1))) at (p + 1))
    plain_is h l q =
        within h ∙ ap (closed_as s at) (same_closing ∙ sym (close_quote s p l q)) ∙
        rw (same_end, walk_quote s p l q, len, plain_none (drop (at + 1) s))
      where
        len : p - (at + 1) ≡ plain (drop (at + 1) s)
        len = omega arith

  pub way_open : at < length s → length s ≤ at + 1 + plain (drop (at + 1) s) → quoted_at s at ≡ more
  way_open = open_is _ refl

  pub way_plain : at < length s → at + 1 + plain (drop (at + 1) s) < length s → get_or s (at + 1 + plain (drop (at + 1) s)) 0 ≡ 34
      → quoted_at s at ≡ gives (spot (String (at + 1) (at + 1 + plain (drop (at + 1) s) - (at + 1))) at (at + 1 + plain (drop (at + 1) s) + 1))
  way_plain = plain_is _ refl

  -- a backslash stands there
  module _ (p : ℕ) (o : Opens s at p) where
    pub way_unclosed : unclosed ≡ closing p (drop p s) → quoted_at s at ≡ more
    way_unclosed c = within o.opened ∙ ap (closed_as s at) (same_closing p o.first ∙ sym c)

    -- and q is the place of the closing quote
    module _ (q : ℕ) (c : closes_at q ≡ closing p (drop p s)) where
      byte_there : get_or (drop (at + 1) s) (plain (drop (at + 1) s)) 0 ≡ get_or s p 0
      byte_there = get_or-drop (at + 1) s (plain (drop (at + 1) s)) 0 ∙ ap (λ (k : ℕ). get_or s k 0) (sym o.first)

      there : get_or s p 0 ≡ 92
      there = sym byte_there ∙ plain_stops (drop (at + 1) s) (rw length-drop (omega (arith, o.first, o.lies))) (λ x. o.escape (sym byte_there ∙ x))

      escaped : stands 92 (take (q - (at + 1)) (drop (at + 1) s)) ≡ true
      escaped =
          stands_at 92 (drop (at + 1) s) (plain (drop (at + 1) s)) (q - (at + 1))
          (omega (arith, o.first, past_backslash s p q o.lies there (sym c)))
          (rw length-drop (omega (arith, o.first, o.lies)))
          (byte_there ∙ there)

      pub close_bounds : (at + 1 ≤ q) × (q < length s)
      close_bounds = let z = closing_lies p (drop p s) q (sym c) in (omega (arith, o.first), omega (arith, length-drop p s, o.lies))

      way_judged : (x : End) → (walk 0 (drop p s)).end ≡ x → quoted_at s at ≡ judged x at (Escaped (at + 1) (q - (at + 1))) (q + 1)
      way_judged x f = within o.opened ∙ ap (closed_as s at) (same_closing p o.first ∙ sym c) ∙ rw (same_end p o.first, f, escaped)

      -- by what measuring from there gives
      pub way_bad : Err Bad ≡ measure_of (walk 0 (drop p s)) → quoted_at s at ≡ refused bad_hex_escape (at ∷ [])
      way_bad e = way_judged bad_hex (told_broken _ Bad e)

      pub way_cut : Err Cut ≡ measure_of (walk 0 (drop p s)) → quoted_at s at ≡ more
      way_cut e = way_judged cut (told_broken _ Cut e)

      pub way_escaped : (n : ℕ) → Ok n ≡ measure_of (walk 0 (drop p s)) → quoted_at s at ≡ gives (spot (Escaped (at + 1) (q - (at + 1))) at (q + 1))
      way_escaped n e = way_judged closed (told_closed _ n e).0

pub ruleset ways = (way_beyond, way_end, way_open, way_plain, no_end)
