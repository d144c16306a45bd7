-- `why` meets its contract: what the full reader says of the token is what the automaton reads there.
use mathlib.Core.Path.{◌≡◌, refl}
use Rattle.refusal.specs.declared.Unread.TheVariants.{Incomplete, Beyond}
use mathlib.Core.Logic.{⊎_elim}
use Rattle.blocks.proofs.Laws.{told_kind, told_within}
use Rattle.blocks.proofs.why.Goals as goal

pub returns-in_default : goal.returns-in_default
returns-in_default c = rw (told_kind _ _ _ c.requires c.binary_token.ensures, c.in_default.is) tt

pub returns-in-Refused : goal.returns-in-Refused
returns-in-Refused c = rw (told_kind _ _ _ c.requires c.binary_token.ensures, c.in-Err.is, c.in-Refused.is) refl

pub returns-in-Incomplete : goal.returns-in-Incomplete
returns-in-Incomplete c =
    ⊎_elim
    (λ (e : c.in-Err.unread ≡ Incomplete). rw (told_kind _ _ _ c.requires c.binary_token.ensures, c.in-Err.is, e) refl)
    (λ (e : c.in-Err.unread ≡ Beyond). absurd (told_within _ _ _ c.requires c.binary_token.ensures (rw e at c.in-Err.is)))
    c.in-Incomplete.is
