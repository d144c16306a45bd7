-- One step of the count, with no count of steps in sight. Assumes nothing.
use mathlib.Core.Path.{◌≡◌, refl, sym, ap, subst, ◌∙◌}
use Prim.Native.Nat.{ℕ, zero, suc, ◌+◌, ◌≤◌, ◌<◌}
use mathlib.Core.List.{List, []}
use native.Mathlib.Omega.{arith}
use lib.ListN.{length}
use borrow.Author.Tests.{le-ltb}
use Rattle.refusal.specs.Numbers.{beyond_slice}
use Rattle.refusal.specs.Paper.{Paper, gives, more, refused, Spot, spot}
use Rattle.refusal.specs.declared.Format.{Format}
use Rattle.token.specs.declared.Token.{Token}
use Rattle.std.specs.Prelude.{Result}
use Rattle.refusal.specs.declared.Unread.{Unread}
use Rattle.token.specs.declared.Placed.{Placed}
use Rattle.token.specs.Meaning.{read_meaning, kinds_of}
use Rattle.token.proofs.Sound.{Sound}
use Rattle.lexer.specs.Lexer.{token_from, token_at, kind_at, skip_of}
use Rattle.lexer.proofs.Laws.{sound, skip_grows, ends}
use Rattle.lookup.specs.Count.{Counted, counted, on_token, count_for, count_from}

none_read : (p : Paper (Spot Token)) → kinds_of p ≡ more → p ≡ more
none_read (gives (spot t first next)) e = let z : ◌≡◌ {A = ℕ} 0 1 = cc in absurd (omega arith)
none_read more e = refl
none_read (refused n vs) e = let z : ◌≡◌ {A = ℕ} 0 1 = cc in absurd (omega arith)

module _ (f : Format) (s : List ℕ) (at : ℕ) where
  -- within the slice the public answer is that of the bytes
  within : at ≤ length s → token_at f s at ≡ token_from f s at
  unfolding token_at
  within h = rw (le-ltb (length s) at h)

  -- so an answer whose case is known says what stands there
  pub read_is : (r r' : Result Placed Unread) → at ≤ length s → read_meaning r ≡ token_at f s at → r ≡ r' → token_from f s at ≡ read_meaning r'
  read_is r r' h e p = sym (within h) ∙ (sym e ∙ ap read_meaning p)

  -- a token takes a byte at least, and ends in the bytes
  pub token_grows : {t : Token} {first next : ℕ} → token_from f s at ≡ gives (spot t first next) → (at < next) × (next ≤ length s)
  token_grows e =
      let x = subst (Sound (length s) (skip_of f s at)) e (sound f s at) in
      (omega (arith, skip_grows f s at, x.1), x.2)

  -- no token is refused with 26
  pub not_beyond : token_from f s at ≡ refused beyond_slice [] → ⊥
  not_beyond e = let x = subst (Sound (length s) (skip_of f s at)) e (sound f s at) in omega (arith, x.1)

  -- behind the bytes stands none
  ended : length s ≤ at → token_from f s at ≡ more
  unfolding kind_at
  ended h = none_read (token_from f s at) (ends f s at h)

-- ---- the count

module _ (f : Format) (s : List ℕ) where
  -- two ways on that agree behind the place give the same
  on_token_lem : (at : ℕ) (k k' : ℕ → ℕ → Counted) (n : ℕ) → ((m q : ℕ) → at < q → k m q ≡ k' m q) → on_token k n at (token_from f s at) ≡ on_token k' n at (token_from f s at)
  unfolding on_token
  on_token_lem at k k' n h = by_read (token_from f s at) refl
    where
      by_read : (r : Paper (Spot Token)) → token_from f s at ≡ r → on_token k n at r ≡ on_token k' n at r
      by_read (gives (spot t first next)) e = h _ next (token_grows f s at e).0
      by_read more e = refl
      by_read (refused m vs) e = refl

  -- any number of steps that lasts past the end gives the same
  enough : (i j n at : ℕ) → length s < i + at → length s < j + at → count_for f s i n at ≡ count_for f s j n at
  unfolding count_for on_token
  enough zero zero n at p q = refl
  enough zero (suc j) n at p q = rw (ended f s at (omega arith))
  enough (suc i) zero n at p q = rw (ended f s at (omega arith))
  enough (suc i) (suc j) n at p q = on_token_lem at (count_for f s i) (count_for f s j) n (λ m r h. enough i j m r (omega arith) (omega arith))

  -- the count reads the token at its place, and goes on behind it
  count_unfolds : (n at : ℕ) → count_from f s n at ≡ on_token (count_from f s) n at (token_from f s at)
  unfolding count_from count_for
  count_unfolds n at = on_token_lem at (count_for f s (length s)) (count_for f s (suc (length s))) n (λ m r h. enough (length s) (suc (length s)) m r (omega arith) (omega arith))

  module _ (n at : ℕ) where
    -- the three things that can stand at a place
    pub count_token : {t : Token} {first next : ℕ} → token_from f s at ≡ gives (spot t first next) → count_from f s n at ≡ count_from f s (n + 1) next
    unfolding on_token
    count_token e = count_unfolds n at ∙ ap (on_token (count_from f s) n at) e

    pub count_more : token_from f s at ≡ more → count_from f s n at ≡ counted n at more
    unfolding on_token
    count_more e = count_unfolds n at ∙ ap (on_token (count_from f s) n at) e

    pub count_refused : {m : ℕ} {vs : List ℕ} → token_from f s at ≡ refused m vs → count_from f s n at ≡ counted n at (refused m vs)
    unfolding on_token
    count_refused e = count_unfolds n at ∙ ap (on_token (count_from f s) n at) e

    pub count_ended : length s ≤ at → count_from f s n at ≡ counted n at more
    count_ended h = count_more (ended f s at h)
