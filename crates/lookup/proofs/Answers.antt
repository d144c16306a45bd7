-- No two answers of this crate mean the same: from what an answer means the answer is found again. Assumes nothing.
use mathlib.Core.Path.{◌≡◌, refl, sym, ap, ◌∙◌}
use mathlib.Core.List.{[], ◌∷◌}
use Rattle.refusal.specs.Paper.{gives, more, refused}
use Rattle.refusal.specs.Meaning.{named_by}
use Rattle.refusal.proofs.Laws.{named_by_its_number}
use Rattle.lookup.specs.Count.{Counted, counted, no_further, count_meaning}
use Rattle.lookup.specs.declared.Count.{Count}
use Rattle.refusal.specs.declared.Refusal.{Refusal}
use Rattle.std.specs.Prelude.{ℕ, Option, Some, None}

back_of : Counted → Count
back_of (counted n end (gives t)) = record { count = n; end = end; refusal = None }
back_of (counted n end more) = record { count = n; end = end; refusal = None }
back_of (counted n end (refused m [])) = record { count = n; end = end; refusal = None }
back_of (counted n end (refused m (p ∷ ps))) = record { count = n; end = end; refusal = Some (named_by m p) }

back_again : (n end : ℕ) (r : Option Refusal) → back_of (counted n end (no_further r)) ≡ record { count = n; end = end; refusal = r }
unfolding back_of
back_again n end None = refl
back_again n end (Some r) = ap (λ x. record { count = n; end = end; refusal = Some x }) (named_by_its_number r)

count_again : (a : Count) → back_of (count_meaning a) ≡ a
count_again a = back_again a.count a.end a.refusal

pub count_injective : (a b : Count) → count_meaning a ≡ count_meaning b → a ≡ b
count_injective a b e = sym (count_again a) ∙ ap back_of e ∙ count_again b
