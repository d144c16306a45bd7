-- `key_end` meets its contract: a letter starts an unquoted string.
use mathlib.Core.Path.{◌∙◌, sym, ap}
use Prim.Native.Nat.{ℕ}
use Rattle.std.specs.Prelude.{Some}
use Rattle.refusal.specs.declared.Format.TheVariants.{Text}
use Rattle.token.specs.Ends.{string_end}
use Rattle.text.proofs.Callers.{letter_ends, letter_here}
use Rattle.lexer.specs.Lexer.{token_from, kind_at, skip_of}
use Rattle.lexer.proofs.Laws.{skip_same}
use Rattle.scan.proofs.key_end.Goals as goal

pub returns-then-is_letter : goal.returns-then-is_letter
unfolding kind_at token_from
returns-then-is_letter c =
    let x = c.args in
    let s = x.input.now in
    let h = c.if-at-input.true in
    let l = sym c.is_letter.ensures ∙ c.if-is_letter.true in
    ap Some c.plain_end.ensures ∙ letter_ends s x.at x.at (letter_here s x.at h l) h l

pub returns-then-is_letter-2 : goal.returns-then-is_letter-2
unfolding kind_at token_from skip_of
returns-then-is_letter-2 c =
    let x = c.args in
    ap Some c.plain_end-then-is_letter-2.ensures
    ∙ letter_ends x.input.now x.at _ c.skip-p.ensures c.if-p-input.true (sym c.is_letter-then-p-input.ensures ∙ c.if-is_letter-2.true)

pub returns : goal.returns
returns c =
    let x = c.args in
    let s = x.input.now in
    c.string_end.ensures ∙ ap (λ (p : ℕ). string_end (kind_at Text s p)) c.skip-p.ensures ∙ ap string_end (skip_same Text s x.at)
