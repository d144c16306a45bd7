-- `read_token` meets its contract: a whole token makes its step, and where none stands the full reader says why.
use mathlib.Core.Path.{sym, ◌∙◌}
use Rattle.automaton.specs.Step.{step}
use Rattle.automaton.proofs.Named.{wrong_named, wrong_shallow}
use lib.ListN.{get_or}
use Rattle.refusal.specs.Meaning.{unwhole_meaning}
use Rattle.kept.specs.Kept.{due_of, blocks_of}
use Rattle.blocks.specs.Moves.{kind_by}
use Rattle.blocks.proofs.Laws.{token_whole, token_none, token_ends, turn_passes, turn_refuses}
use Rattle.blocks.proofs.read_token.Goals as goal

pub returns-in_default-clause-reads : goal.returns-in_default-clause-reads
returns-in_default-clause-reads c = λ k n. sym (token_none c.args.input.now c.args.place c.in_default.ensures k c.args.blocks.now n (unwhole_meaning c.why.result) c.why.ensures)

pub returns-in-Ok-clause-reads : goal.returns-in-Ok-clause-reads
returns-in-Ok-clause-reads c = λ k n.
    turn_passes k c.args.place c.in-Some.end n c.args.blocks.now c.take.new.blocks (step (due_of c.args.blocks.now.due) (blocks_of c.args.blocks.now) (kind_by (get_or c.args.input.now c.args.place 0))) c.in-Ok.whole c.in-Ok.ensures.turn
    ∙ sym (token_whole c.args.input.now c.args.place c.in-Some.end c.in-Some.ensures k c.args.blocks.now n)

pub returns-in-Ok-clause-ahead : goal.returns-in-Ok-clause-ahead
returns-in-Ok-clause-ahead c = (token_ends c.args.input.now c.args.place c.in-Some.end c.in-Some.ensures).0

pub returns-in-Err-clause-reads : goal.returns-in-Err-clause-reads
returns-in-Err-clause-reads c = λ k n.
    let d = due_of c.args.blocks.now.due in
    let K = blocks_of c.args.blocks.now in
    let x = kind_by (get_or c.args.input.now c.args.place 0) in
    rw c.refused.ensures (turn_refuses k c.args.place c.in-Some.end n c.args.blocks.now c.take.new.blocks (step d K x) (λ m e. ((wrong_named d K x m e).0, wrong_shallow d K x m e)) c.in-Err.why c.in-Err.ensures.turn)
    ∙ sym (token_whole c.args.input.now c.args.place c.in-Some.end c.in-Some.ensures k c.args.blocks.now n)
