-- `scalar_end` meets its contract: the bytes are ended, `#`, a byte that starts no scalar, or a marker of 1 to 6.
use mathlib.Core.Path.{◌∙◌, sym, ap, refl}
use native.Mathlib.Omega.{arith}
use Rattle.refusal.specs.Paper.{Paper, Spot}
use Rattle.token.specs.declared.Token.{Token}
use Rattle.token.specs.Meaning.{kinds_of}
use Rattle.token.specs.Marks.{mark_of}
use Rattle.token.specs.Ends.{scalar_end}
use Rattle.binary.specs.Binary.{marked}
use Rattle.binary.proofs.Laws.{ended}
use Rattle.binary_ends.proofs.Ends.{scalar_at, no_scalar}
use Rattle.binary_ends.proofs.scalar_end.Goals as goal

pub returns-then-input-at : goal.returns-then-input-at
returns-then-input-at c =
    let x = c.args in
    sym (ap (λ (p : Paper (Spot Token)). scalar_end (kinds_of p)) (ended x.input.now x.at c.if-input-at.true))

pub returns-then-b-eq35 : goal.returns-then-b-eq35
unfolding marked mark_of
returns-then-b-eq35 c =
    let x = c.args in
    scalar_at x.input.now x.at 0x23 (omega arith) c.if-b-eq35.true

pub returns-then-b-gt6 : goal.returns-then-b-gt6
returns-then-b-gt6 c =
    let x = c.args in
    sym (no_scalar x.input.now x.at _ (λ e. omega arith) (λ e. omega arith) (λ e. omega arith) (λ e. omega arith) (λ e. omega arith) (λ e. omega arith) (λ e. omega arith))
    ∙ scalar_at x.input.now x.at _ (omega arith) refl

pub returns-then-b-eq0 : goal.returns-then-b-eq0
returns-then-b-eq0 c =
    let x = c.args in
    sym (no_scalar x.input.now x.at _ (λ e. omega arith) (λ e. omega arith) (λ e. omega arith) (λ e. omega arith) (λ e. omega arith) (λ e. omega arith) (λ e. omega arith))
    ∙ scalar_at x.input.now x.at _ (omega arith) refl
