-- `peek_byte` meets its contract: 26 first, then the byte behind what is ignored.
use mathlib.Core.Path.{sym}
use native.Mathlib.Omega.{arith}
use Rattle.cursor.proofs.Laws.{peek_beyond, peek_finds, peek_ends}
use Rattle.cursor.proofs.YsonIterator.peek_byte.Goals as goal

pub returns-then-input-pos : goal.returns-then-input-pos
returns-then-input-pos c = let x = c.args.self in sym (peek_beyond x.format x.input.now x.pos (omega arith))

pub returns-then-place-input : goal.returns-then-place-input
returns-then-place-input c =
    let x = c.args.self in
    let y = c.skip-place in
    sym (peek_finds x.format x.input.now x.pos y.result (omega arith) y.ensures (omega arith))

pub returns : goal.returns
returns c =
    let x = c.args.self in
    let y = c.skip-place in
    sym (peek_ends x.format x.input.now x.pos y.result (omega arith) y.ensures (omega arith))
