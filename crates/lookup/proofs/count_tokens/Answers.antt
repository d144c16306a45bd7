-- `count_tokens` meets its contract: at each turn, the count from the place reached is the count from the first byte.
use mathlib.Core.Path.{refl, sym, ap, ◌∙◌}
use Rattle.std.specs.Prelude.{Err}
use Rattle.refusal.specs.Meaning.{refusal_meaning}
use Rattle.refusal.specs.declared.Refusal.{Refusal}
use native.Mathlib.Omega.{arith}
use Rattle.lookup.specs.Count.{counted, count_of}
use Rattle.lookup.proofs.Laws.{read_is, token_grows, not_beyond, count_token, count_more, count_refused, count_ended}
use Rattle.lookup.proofs.count_tokens.Goals as goal

pub loop-end-init : goal.loop-end-init
unfolding count_of
loop-end-init c = (omega arith, omega arith, refl)

pub loop-end-smaller : goal.loop-end-smaller
loop-end-smaller c =
    let x = c.args in
    let l = c.loop-end in
    let t = c.token_at in
    let y = read_is x.format x.input.now l.end t.result _ (omega arith) t.ensures c.in-Ok.is in
    let g = token_grows x.format x.input.now l.end y in
    omega (arith, g.0, g.1)

pub loop-end-preserved : goal.loop-end-preserved
loop-end-preserved c =
    let x = c.args in
    let l = c.loop-end in
    let t = c.token_at in
    let y = read_is x.format x.input.now l.end t.result _ (omega arith) t.ensures c.in-Ok.is in
    let g = token_grows x.format x.input.now l.end y in
    (omega (arith, l.invariant.0, g.0), g.1, sym (count_token x.format x.input.now l.count l.end y) ∙ l.invariant.2)

pub returns-in-Err-Refused : goal.returns-in-Err-Refused
returns-in-Err-Refused c =
    let x = c.args in
    let l = c.loop-end in
    let t = c.token_at in
    let r = c.in-Err-Refused in
    let y = read_is x.format x.input.now l.end t.result _ (omega arith) t.ensures (r.is ∙ ap Err r.field-0-is) in
    ap (λ (q : Refusal). counted l.count l.end (refusal_meaning q)) r.refusal-is ∙ sym (count_refused x.format x.input.now l.count l.end y) ∙ l.invariant.2

pub returns-in-Err-Incomplete : goal.returns-in-Err-Incomplete
returns-in-Err-Incomplete c =
    let x = c.args in
    let l = c.loop-end in
    let t = c.token_at in
    let r = c.in-Err-Incomplete in
    let y = read_is x.format x.input.now l.end t.result _ (omega arith) t.ensures (r.is ∙ ap Err r.field-0-is) in
    sym (count_more x.format x.input.now l.count l.end y) ∙ l.invariant.2

pub returns-in-Err-Beyond : goal.returns-in-Err-Beyond
returns-in-Err-Beyond c =
    let x = c.args in
    let l = c.loop-end in
    let t = c.token_at in
    let r = c.in-Err-Beyond in
    let y = read_is x.format x.input.now l.end t.result _ (omega arith) t.ensures (r.is ∙ ap Err r.field-0-is) in
    absurd (not_beyond x.format x.input.now l.end y)

pub returns : goal.returns
returns c =
    let x = c.args in
    let l = c.loop-end in
    sym (count_ended x.format x.input.now l.count l.end (omega arith)) ∙ l.invariant.2
