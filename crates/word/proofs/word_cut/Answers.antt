-- `word_cut` meets its contract: from the end on, each byte is set in front of the word of those behind it.
use Rattle.std.proofs.Common.{ℕ, ◌+◌, ◌*◌, ◌∙◌, sym, ap, arith, rules, inl}
use Rattle.word.proofs.Bytes.{word_out, more_fits, word_more, word_whole}
use Rattle.word.proofs.word_cut.Goals as goal

pub loop-q-init : goal.loop-q-init
loop-q-init c = (search rules, sym (word_out c.args.s.now _ _ (omega arith)))

pub overflow_mul-w : goal.overflow_mul-w
overflow_mul-w c = let x = c.args in omega (arith, more_fits x.s.now x.p _ _ (omega arith) (omega arith) c.loop-q.invariant.1 (λ i. omega (arith, c.type_inv.s i)))

pub overflow_add-w : goal.overflow_add-w
overflow_add-w c = let x = c.args in omega (arith, more_fits x.s.now x.p _ _ (omega arith) (omega arith) c.loop-q.invariant.1 (λ i. omega (arith, c.type_inv.s i)))

pub loop-q-preserved : goal.loop-q-preserved
loop-q-preserved c =
    let x = c.args in
    (inl (omega arith), ap (λ (b : ℕ). c.loop-q.w * 256 + b) c.from.ensures ∙ word_more x.s.now x.p _ _ (omega arith) (omega arith) c.loop-q.invariant.1)

pub returns : goal.returns
returns c = c.loop-q.invariant.1 ∙ word_whole c.args.s.now c.args.p c.loop-q.q c.loop-q-test.false c.loop-q.invariant.0
