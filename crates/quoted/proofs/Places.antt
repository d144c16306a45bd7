-- The closing quote by place: what holds from a place holds from the next.
use mathlib.Core.Path.{◌≡◌, refl, sym, ap, ap₂, ◌∙◌}
use mathlib.Core.List.{List, [], ◌∷◌}
use Prim.Native.Nat.{ℕ, ◌+◌, ◌≤◌, ◌<◌}
use native.Mathlib.Omega.{arith}
use borrow.Author.Tests.{ne_eqb}
use lib.ListN.{length, get_or, drop, drop_of_length-le}
use lib.Seq.{drop-drop}
use Rattle.std.proofs.lemmas.List.{drop_more}
use Rattle.quoted.specs.Quoted.{closes_at, unclosed, closing, hidden}

hidden_is : (p : ℕ) (l : List ℕ) → hidden p l ≡ closing (p + 1) (drop 1 l)
unfolding closing
hidden_is p [] = refl
hidden_is p (b ∷ l) = refl

module _ (s : List ℕ) (p : ℕ) where
  pub close_out : length s ≤ p → unclosed ≡ closing p (drop p s)
  unfolding closing
  close_out h = rw (drop_of_length-le s h)

  module _ (h : p < length s) where
    pub close_quote : get_or s p 0 ≡ 34 → closes_at p ≡ closing p (drop p s)
    unfolding closing
    close_quote e = rw (drop_more s p 0 h, e)

    pub close_plain : (get_or s p 0 ≡ 34 → ⊥) → (get_or s p 0 ≡ 92 → ⊥) → closing (p + 1) (drop (p + 1) s) ≡ closing p (drop p s)
    unfolding closing
    close_plain m n = rw (drop_more s p 0 h, ne_eqb _ _ m, ne_eqb _ _ n)

    -- a backslash hides the byte behind it, if there is one
    module _ (e : get_or s p 0 ≡ 92) where
      pub close_escape : closing p (drop p s) ≡ hidden (p + 1) (drop (p + 1) s)
      unfolding closing
      close_escape = rw (drop_more s p 0 h, e)

      pub close_hidden : closing (p + 2) (drop (p + 2) s) ≡ closing p (drop p s)
      close_hidden = sym (close_escape ∙ hidden_is (p + 1) (drop (p + 1) s) ∙ ap₂ closing same (drop-drop 1 (p + 1) s ∙ ap (λ (n : ℕ). drop n s) same))
        where
          same : p + 1 + 1 ≡ p + 2
          same = omega arith

pub ruleset closes = (close_out, close_quote, close_plain, close_hidden)
