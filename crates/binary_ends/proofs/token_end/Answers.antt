-- `token_end` meets its contract: a scalar's end, or a mark's.
use mathlib.Core.Path.{◌≡◌, refl, ◌∙◌, sym, ap}
use mathlib.Core.List.{List}
use Prim.Native.Nat.{ℕ, ◌+◌}
use native.Mathlib.Omega.{arith}
use Rattle.std.specs.Prelude.{Some}
use lib.ListN.{get_or}
use Rattle.refusal.specs.Paper.{Paper, Spot}
use Rattle.token.specs.declared.Token.{Token}
use Rattle.token.specs.Meaning.{kinds_of}
use Rattle.token.specs.Marks.{mark_of}
use Rattle.token.specs.Ends.{end_of, scalar_end}
use Rattle.binary.specs.Binary.{marked, binary_from}
use Rattle.binary.proofs.Laws.{ended, inside}
use Rattle.binary_ends.proofs.Ends.{end_of_scalar, one_byte, rest_ends}
use Rattle.std.proofs.Common.{◌<◌, length}
use Rattle.binary_ends.proofs.token_end.Goals as goal

-- the byte at the place is b, and it is a token by itself
mark : (s : List ℕ) (at b : ℕ) → at < length s → get_or s at 0 ≡ b → end_of (marked s at b) ≡ Some (at + 1) → Some (at + 1) ≡ end_of (binary_from s at)
mark s at b h = one_byte s at b h

pub returns-in-Some : goal.returns-in-Some
returns-in-Some c = end_of_scalar _ _ c.in-Some.ensures

pub returns-then-input-at : goal.returns-then-input-at
returns-then-input-at c = let x = c.args in sym (ap end_of (ended x.input.now x.at c.if-input-at.true))

pub returns-in-59 : goal.returns-in-59
unfolding marked mark_of
returns-in-59 c = mark c.args.input.now c.args.at _ (omega arith) c.in-59.is refl

pub returns-in-60 : goal.returns-in-60
unfolding marked mark_of
returns-in-60 c = mark c.args.input.now c.args.at _ (omega arith) c.in-60.is refl

pub returns-in-61 : goal.returns-in-61
unfolding marked mark_of
returns-in-61 c = mark c.args.input.now c.args.at _ (omega arith) c.in-61.is refl

pub returns-in-62 : goal.returns-in-62
unfolding marked mark_of
returns-in-62 c = mark c.args.input.now c.args.at _ (omega arith) c.in-62.is refl

pub returns-in-91 : goal.returns-in-91
unfolding marked mark_of
returns-in-91 c = mark c.args.input.now c.args.at _ (omega arith) c.in-91.is refl

pub returns-in-93 : goal.returns-in-93
unfolding marked mark_of
returns-in-93 c = mark c.args.input.now c.args.at _ (omega arith) c.in-93.is refl

pub returns-in-123 : goal.returns-in-123
unfolding marked mark_of
returns-in-123 c = mark c.args.input.now c.args.at _ (omega arith) c.in-123.is refl

pub returns-in-125 : goal.returns-in-125
unfolding marked mark_of
returns-in-125 c = mark c.args.input.now c.args.at _ (omega arith) c.in-125.is refl

pub returns-in_default-input : goal.returns-in_default-input
returns-in_default-input c =
    let x = c.args in
    let i = inside x.input.now x.at (omega arith) in
    c.in_default.ensures ∙ ap (λ (p : Paper (Spot Token)). scalar_end (kinds_of p)) i
    ∙ rest_ends x.input.now x.at _ (λ e. omega arith) (λ e. omega arith) (λ e. omega arith) (λ e. omega arith) (λ e. omega arith) (λ e. omega arith) (λ e. omega arith) (λ e. omega arith)
    ∙ sym (ap end_of i)
