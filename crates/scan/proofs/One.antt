-- An answer of the scan means one thing: two answers that its promise allows are equal.
use mathlib.Core.Path.{◌≡◌, refl, sym, ap, ◌∙◌}
use Prim.Native.Nat.{ℕ}
use mathlib.Core.List.{List, [], ◌∷◌}
use Rattle.refusal.specs.Paper.{Paper, gives, more, refused}
use Rattle.refusal.specs.Meaning.{named_by}
use Rattle.refusal.proofs.Laws.{named_by_its_number}
use Rattle.std.specs.Prelude.{Result, Ok, Err}
use Rattle.refusal.specs.declared.Unwhole.{Unwhole}
use Rattle.refusal.specs.declared.Unwhole.TheVariants as w
use Rattle.scan.specs.Meaning.{scan_meaning}

-- back from what an answer means
first_of : List ℕ → ℕ
first_of [] = 0
first_of (p ∷ vs) = p

scan_back : Paper ℕ → Result ℕ Unwhole
scan_back (gives n) = Ok n
scan_back more = Err w.Incomplete
scan_back (refused n vs) = Err (w.Refused (named_by n (first_of vs)))

undone : (r : Result ℕ Unwhole) → scan_back (scan_meaning r) ≡ r
unfolding scan_back first_of
undone (Ok n) = refl
undone (Err w.Incomplete) = refl
undone (Err (w.Refused r)) = ap (λ x. Err (w.Refused x)) (named_by_its_number r)

pub scan_injective : (r q : Result ℕ Unwhole) → scan_meaning r ≡ scan_meaning q → r ≡ q
scan_injective r q e = sym (undone r) ∙ ap scan_back e ∙ undone q
