-- What handing a string out answers and writes, by the string. Assumes nothing.
use mathlib.Core.Path.{◌≡◌, ap, ◌∙◌}
use mathlib.Core.List.{List}
use Prim.Native.Nat.{ℕ}
use lib.ListN.{length}
use Rattle.refusal.specs.Paper.{Paper, Got}
use Rattle.token.specs.Strings.{bytes_answer, bytes_written}

-- what is answered and written for one string is so for another that is the same
pub handed : {p q : Paper (Got (List ℕ))} {a : Paper (Got ℕ)} {w : List ℕ} (out : List ℕ) → p ≡ q
    → (a ≡ bytes_answer p (length out)) × (w ≡ bytes_written p out) → (a ≡ bytes_answer q (length out)) × (w ≡ bytes_written q out)
handed out e h = (h.0 ∙ ap (λ p. bytes_answer p (length out)) e, h.1 ∙ ap (λ p. bytes_written p out) e)
