-- The tokens of some bytes, counted from the first byte on. The steps are counted only so that the walk is seen to end; the law
-- `count_unfolds` (proofs/Laws) is all that anything else sees of that.
use Rattle.std.specs.Prelude.{ℕ, zero, suc, ◌+◌, List, length, Option, Some, None}
use Rattle.refusal.specs.Paper.{Paper, gives, more, refused, Spot, spot}
use Rattle.refusal.specs.Meaning.{refusal_meaning}
use Rattle.refusal.specs.declared.Format.{Format}
use Rattle.refusal.specs.declared.Refusal.{Refusal}
use Rattle.token.specs.declared.Token.{Token}
use Rattle.lexer.specs.Lexer.{token_from}
use Rattle.lookup.specs.declared.Count.{Count}

-- a count: so many tokens, the place after the last, and why no further one stands there (more bytes are needed, or a refusal)
pub data Counted : Type 0 where
  counted : ℕ → ℕ → Paper Token → Counted

-- why no further token stands there
abbrev pub no_further : Option Refusal → Paper Token
no_further None = more
no_further (Some r) = refusal_meaning r

-- what an answer about a count means
abbrev pub count_meaning : Count → Counted
count_meaning c = counted c.count c.end (no_further c.refusal)

-- behind a token the count goes on, one higher; where there is none it ends
unfoldable pub on_token : (ℕ → ℕ → Counted) → ℕ → ℕ → Paper (Spot Token) → Counted
on_token k n at (gives (spot t first next)) = k (n + 1) next
on_token k n at more = counted n at more
on_token k n at (refused m vs) = counted n at (refused m vs)

-- the count from a place, with so many tokens before it, in so many steps at most
unfoldable pub count_for : Format → List ℕ → ℕ → ℕ → ℕ → Counted
count_for f s zero n at = counted n at more
count_for f s (suc k) n at = on_token (count_for f s k) n at (token_from f s at)

-- the same with no limit: each token takes a byte at least, so that as many steps as there are bytes, and one, are enough
unfoldable pub count_from : Format → List ℕ → ℕ → ℕ → Counted
count_from f s = count_for f s (suc (length s))

-- the count of all tokens
unfoldable pub count_of : Format → List ℕ → Counted
count_of f s = count_from f s 0 0
