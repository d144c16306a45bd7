-- The automaton run over the bytes from a place: the meaning of a scan. The steps are counted only so that the run is seen to end;
-- the law `walk_unfolds` (proofs/Laws) is all that anything else sees of that.
use Rattle.std.specs.Prelude.{ℕ, zero, suc, List, [], ◌∷◌, length}
use Rattle.refusal.specs.Numbers.{too_deep}
use Rattle.refusal.specs.Paper.{Paper, gives, more, refused, Spot, spot}
use Rattle.refusal.specs.declared.Format.{Format}
use Rattle.token.specs.declared.Kind.{Kind}
use Rattle.lexer.specs.Lexer.{kind_at}
use Rattle.automaton.specs.Step.{Block, Due, value, Step, go, finished, wrong, deep, step}

-- how the run goes on, from a place, some open blocks and what is due
abbrev pub Cont : Type 0
Cont = ℕ → List Block → Due → Paper ℕ

-- behind a token from first to next: the run goes on, the value is whole and ends there, the token is refused with the place just
-- after it (10 to 12), or a block would be one too many, refused at the token's first byte (13)
unfoldable pub arrive : Cont → ℕ → ℕ → Step → Paper ℕ
arrive k first next (go K d) = k next K d
arrive k first next finished = gives next
arrive k first next (wrong n) = refused n (next ∷ [])
arrive k first next deep = refused too_deep (first ∷ [])

-- a token takes its step; where the bytes ended, more are needed; a token's own refusal is the answer
unfoldable pub on_read : Cont → List Block → Due → Paper (Spot Kind) → Paper ℕ
on_read k K d (gives (spot t first next)) = arrive k first next (step d K t)
on_read k K d more = more
on_read k K d (refused n vs) = refused n vs

unfoldable pub run_for : Format → List ℕ → ℕ → Cont
run_for f s zero at K d = more
run_for f s (suc n) at K d = on_read (run_for f s n) K d (kind_at f s at)

-- the run: each token takes a byte at least, so that as many steps as there are bytes, and one, are enough
unfoldable pub walk : Format → List ℕ → Cont
walk f s = run_for f s (suc (length s))

-- the scan of some bytes: a value is due at the first, and no block is open
unfoldable pub scan_of : Format → List ℕ → Paper ℕ
scan_of f s = walk f s 0 [] value
