-- `walk` ends: each token that the cursor reads takes a byte at least, and ends in the bytes.
use Rattle.std.proofs.Common.{arith}
use Rattle.lookup.proofs.Laws.{read_is, token_grows}
use Rattle.worked.proofs.tokens.walk.Goals as goal

pub loop-token-smaller : goal.loop-token-smaller
loop-token-smaller c =
    let x = c.args in
    let at = c.loop-token.at in
    let is = read_is x.format x.bytes.now at c.token_at.result _ c.loop-token.invariant c.token_at.ensures c.in-Ok.is in
    let grows = token_grows x.format x.bytes.now at is in
    omega (arith, grows.0, grows.1)

pub loop-token-preserved : goal.loop-token-preserved
loop-token-preserved c =
    let x = c.args in
    let at = c.loop-token.at in
    let is = read_is x.format x.bytes.now at c.token_at.result _ c.loop-token.invariant c.token_at.ensures c.in-Ok.is in
    (token_grows x.format x.bytes.now at is).1
