-- Maps and attribute blocks alike, over plain values: what their first byte opens, and whole pairs passed one after another.
use mathlib.Core.Path.{◌≡◌, refl, sym, ap, subst, ◌∙◌}
use mathlib.Core.Logic.{◌⊎◌, ⊎_elim}
use Prim.Native.Nat.{ℕ, ◌+◌, ◌≤◌, ◌<◌}
use mathlib.Core.Bool.{Bool, true, false}
use mathlib.Core.List.{List, [], ◌∷◌}
use Rattle.std.specs.Prelude.{Option, Some}
use native.Mathlib.Omega.{arith}
use lib.ListN.{length, get_or}
use Rattle.refusal.specs.Numbers.{too_deep}
use Rattle.refusal.specs.Paper.{Paper, gives, refused, pick}
use Rattle.refusal.specs.Meaning.{unwhole_meaning}
use Rattle.refusal.specs.declared.Unwhole.{Unwhole}
use Rattle.refusal.specs.declared.Format.{Format}
use Rattle.refusal.specs.declared.Format.TheVariants.{Binary}
use Rattle.token.specs.Meaning.{kinds_of}
use Rattle.token.specs.Ends.{string_end, scalar_end}
use Rattle.binary.specs.Binary.{binary_from}
use Rattle.lexer.specs.Lexer.{token_from, kind_at, skip_of, map_opens, attributes_open, equals_stands, separator_stands}
use Rattle.automaton.specs.Limit.{most_open}
use Rattle.automaton.specs.Step.{map, attributes, value, key, equals, go}
use Rattle.scan.specs.Walk.{arrive, walk}
use Rattle.scan.specs.Post.{Begun, Pairs, Along, block_of, due_of}
use Rattle.scan.proofs.Arms.{opens_attributes_lem, opens_map, map_closed, equals_is, key_next, after_key}
use Rattle.scan.proofs.Tokens.{skip_on, skip_here}
use Rattle.scan.proofs.Laws.{walk_skip}
use Rattle.scan.proofs.Parts.{Here, stop, on, too, into, begun_in, begun_attributed, attributed_in, attributed_then, string_run, scalar_run}

-- 0. The two truth values are not one
pub apart : true ≡ false → ⊥
apart e = let z : ◌≡◌ {A = ℕ} 0 1 = ap (λ (b : Bool). pick b 0 1) e in omega arith

-- 1. The block whose first byte stands at p: attributes where a, and only where none were passed

module _ (f : Format) (s : List ℕ) (p : ℕ) (here : skip_of f s p ≡ p) (depth : ℕ) (c : Bool) (within : p < length s)
    (opens : (get_or s p 0 ≡ 0x3C) ⊎ (get_or s p 0 ≡ 0x7B)) (once : get_or s p 0 ≡ 0x3C → c ≡ false) where
  pub pairs_too : depth ≡ most_open → Begun f s p depth c (refused too_deep (p ∷ []))
  pairs_too g = ⊎_elim (λ e. too f s p here depth attributes_open attributes (due_of c) key within e (opens_attributes_lem c (once e)) g) (λ e. too f s p here depth map_opens map (due_of c) key within e (opens_map c) g) opens

  module _ (few : depth ≤ most_open) (room : depth ≡ most_open → ⊥) where
    pairs_map : {r : Paper ℕ} → (get_or s p 0 ≡ 0x3C → ⊥) → Pairs f s (p + 1) (depth + 1) false r → Begun f s p depth c r
    pairs_map h x = begun_in f s p here depth c map map_closed (into f s p here depth map_opens map (due_of c) key within (⊎_elim (λ e. absurd (h e)) (λ e. e) opens) (opens_map c) few room x)

    pub pairs_stop : (a : Bool) (w : Unwhole) → (a ≡ true → get_or s p 0 ≡ 0x3C) → (a ≡ false → get_or s p 0 ≡ 0x3C → ⊥) → Pairs f s (p + 1) (depth + 1) a (unwhole_meaning w) → Begun f s p depth c (unwhole_meaning w)
    pairs_stop true w t u x = begun_attributed f s p here depth c (once (t refl)) within (t refl) few room (stop w (attributed_in f s (p + 1) depth x))
    pairs_stop false w t u x = stop w (pairs_map (u refl) x)

    pub pairs_whole : (a : Bool) {r : Paper ℕ} → a ≡ false → (a ≡ false → get_or s p 0 ≡ 0x3C → ⊥) → Pairs f s (p + 1) (depth + 1) a r → Begun f s p depth c r
    pairs_whole true {r} e u x = pairs_map (u e) (subst (λ (a : Bool). Pairs f s (p + 1) (depth + 1) a r) e x)
    pairs_whole false e u x = pairs_map (u refl) x

    pub pairs_then : (a : Bool) {r : Paper ℕ} (q o : ℕ) → a ≡ true → (a ≡ true → get_or s p 0 ≡ 0x3C) → Pairs f s (p + 1) (depth + 1) a (gives q) → o ≡ skip_of f s q → Begun f s o depth true r → Begun f s p depth c r
    pairs_then true q o e t x i y = begun_attributed f s p here depth c (once (t refl)) within (t refl) few room (attributed_then f s (p + 1) depth q o x i y)
    pairs_then false q o e t x i y = begun_attributed f s p here depth c (once (t e)) within (t e) few room (attributed_then f s (p + 1) depth q o (subst (λ (a : Bool). Pairs f s (p + 1) (depth + 1) a (gives q)) e x) i y)

-- 2. Pairs passed at once

pub along_here : (f : Format) (s : List ℕ) (b : Bool) (depth from at q : ℕ) → Here f s (block_of b) key depth from at → Along f s at q → Here f s (block_of b) key depth from q
along_here f s b depth from at q x y = (omega (arith, x.0, y.0), λ K i. x.1 K i ∙ y.1 b K)

pub along_as : (f g : Format) (s : List ℕ) (at q : ℕ) → f ≡ g → Along g s at q → Along f s at q
along_as f g s at q e x = subst (λ (f : Format). Along f s at q) (sym e) x

pub along_none : (f : Format) (s : List ℕ) (at : ℕ) → Along f s at at
along_none f s at = (omega arith, λ b K. refl)

-- binary ignores nothing, and its ends are those of the format
module _ (s : List ℕ) where
  pub bare : (p : ℕ) → p ≡ skip_of Binary s p
  unfolding skip_of
  bare p = refl

  pub key_ends : (p : ℕ) (q : Option ℕ) → q ≡ string_end (kinds_of (binary_from s p)) → q ≡ string_end (kind_at Binary s p)
  unfolding kind_at token_from
  key_ends p q e = e

  pub value_ends : (p : ℕ) (q : Option ℕ) → q ≡ scalar_end (kinds_of (binary_from s p)) → q ≡ scalar_end (kind_at Binary s p)
  unfolding kind_at token_from
  value_ends p q e = e

-- a key up to k, `=` at p and a scalar up to q
module _ (f : Format) (s : List ℕ) (from at k p q : ℕ) (until : Along f s from at) (key_is : Some k ≡ string_end (kind_at f s at)) (skips : p ≡ skip_of f s k)
    (within : p < length s) (byte : get_or s p 0 ≡ 0x3D) (value_is : Some q ≡ scalar_end (kind_at f s (p + 1))) where
  pub along_pair : Along f s from q
  unfolding arrive
  along_pair =
      let g = string_run f s at k key_is in
      let h = scalar_run f s (p + 1) q false value_is in (
        omega (arith, until.0, g.1, h.1, skip_on f s k p skips),
        λ b K. until.1 b K ∙ g.0 (block_of b ∷ K) ∙ walk_skip f s k (block_of b ∷ K) equals p skips ∙ on f s p (skip_here f s k p skips) equals_stands within byte (block_of b ∷ K) equals (go (block_of b ∷ K) value) (equals_is (block_of b ∷ K)) ∙ h.0 (block_of b ∷ K) ∙ ap (arrive (walk f s) q q) (after_key b K),
      )

  pub pair_grows : (at < q) × (q ≤ length s)
  pair_grows =
      let g = string_run f s at k key_is in
      let h = scalar_run f s (p + 1) q false value_is in
      (omega (arith, g.1, h.1, skip_on f s k p skips), h.2)

  -- and `;` at r
  pub along_next : (r : ℕ) → r ≡ skip_of f s q → r < length s → get_or s r 0 ≡ 0x3B → Along f s from (r + 1)
  unfolding arrive
  along_next r e l i = (
    omega (arith, along_pair.0, skip_on f s q r e),
    λ b K. along_pair.1 b K ∙ walk_skip f s q (block_of b ∷ K) key r e ∙ on f s r (skip_here f s q r e) separator_stands l i (block_of b ∷ K) key (go (block_of b ∷ K) key) (key_next (block_of b ∷ K)),
  )
