-- What the scan asks of the token reader: a token moves on and ends in the bytes, what is ignored is ignored once, and a mark of one byte
-- is known by that byte. Nothing else of the two formats is used.
use mathlib.Core.Path.{◌≡◌, refl, sym, ap, ◌∙◌}
use Prim.Native.Nat.{ℕ, ◌≤◌, ◌<◌}
use mathlib.Core.List.{List}
use native.Mathlib.Omega.{arith}
use Rattle.std.specs.Prelude.{Some, None}
use lib.ListN.{length, get_or}
use Rattle.refusal.specs.Paper.{Paper, gives, more, refused, Spot, spot}
use Rattle.refusal.specs.declared.Format.{Format}
use Rattle.token.specs.declared.Kind.{Kind}
use Rattle.token.specs.declared.Kind.TheVariants.{Text, Scalar, OpenList, CloseList, OpenMap, CloseMap, OpenAttributes, CloseAttributes, Equals, Semicolon}
use Rattle.token.specs.Ends.{string_end, scalar_end}
use Rattle.lexer.specs.Lexer.{kind_at, skip_of, Mark}
use Rattle.lexer.proofs.Laws.{grows, first_is, skip_grows, skip_again, mark_only}

module _ (f : Format) (s : List ℕ) where
  -- a token takes a byte at least, and ends in the bytes
  pub token_grows : (at : ℕ) {k : Kind} {a n : ℕ} → kind_at f s at ≡ gives (spot k a n) → (at < n) × (n ≤ length s)
  token_grows at e = let g = grows f s at e in (omega (arith, g.0, g.1), g.2)

  pub skip_on : (at p : ℕ) → p ≡ skip_of f s at → at ≤ p
  skip_on at p e = omega (arith, skip_grows f s at)

  -- what was skipped to is a token's first byte
  pub skip_here : (at p : ℕ) → p ≡ skip_of f s at → skip_of f s p ≡ p
  skip_here at p e = ap (skip_of f s) e ∙ skip_again f s at ∙ sym e

  module _ (p : ℕ) (here : skip_of f s p ≡ p) {j : Kind} {a n : ℕ} (read : kind_at f s p ≡ gives (spot j a n)) where
    -- a token is of no kind whose mark is not the byte there
    pub not_mark : {b : ℕ} {k : Kind} → Mark b k → (get_or s p 0 ≡ b → ⊥) → j ≡ k → ⊥
    not_mark {k = k} m h i = h (ap (λ (q : ℕ). get_or s q 0) (sym (first_is f s p read ∙ here)) ∙ mark_only f s p m (read ∙ ap (λ (k : Kind). gives (spot k a n)) i))

    -- nor, where no scalar ends, a string or another scalar
    pub no_text : None ≡ string_end (kind_at f s p) → j ≡ Text → ⊥
    no_text e i = let x : None ≡ Some n = e ∙ ap string_end (read ∙ ap (λ (k : Kind). gives (spot k a n)) i) in cc

    pub no_scalar : None ≡ scalar_end (kind_at f s p) → (j ≡ Text → ⊥) × (j ≡ Scalar → ⊥)
    no_scalar e = (λ i. no (e ∙ ap scalar_end (read ∙ ap (λ (k : Kind). gives (spot k a n)) i)), λ i. no (e ∙ ap scalar_end (read ∙ ap (λ (k : Kind). gives (spot k a n)) i)))
      where
        no : None ≡ Some n → ⊥
        no x = cc

-- a string, another scalar, or neither
pub data Ending : Paper (Spot Kind) → Type 0 where
  text_ends : {a n : ℕ} → Ending (gives (spot Text a n))
  scalar_ends : {a n : ℕ} → Ending (gives (spot Scalar a n))
  none_ends : {t : Paper (Spot Kind)} → string_end t ≡ None → scalar_end t ≡ None → Ending t

pub ending : (t : Paper (Spot Kind)) → Ending t
ending (gives (spot Text a n)) = text_ends
ending (gives (spot Scalar a n)) = scalar_ends
ending (gives (spot OpenList a n)) = none_ends refl refl
ending (gives (spot CloseList a n)) = none_ends refl refl
ending (gives (spot OpenMap a n)) = none_ends refl refl
ending (gives (spot CloseMap a n)) = none_ends refl refl
ending (gives (spot OpenAttributes a n)) = none_ends refl refl
ending (gives (spot CloseAttributes a n)) = none_ends refl refl
ending (gives (spot Equals a n)) = none_ends refl refl
ending (gives (spot Semicolon a n)) = none_ends refl refl
ending more = none_ends refl refl
ending (refused m vs) = none_ends refl refl
