-- `binary_string_bytes` meets its contract: the token's own answer, and then its bytes.
use mathlib.Core.Path.{ap}
use Rattle.token.specs.Strings.{string_found}
use Rattle.strings.proofs.Laws.{handed}
use Rattle.binary.specs.Strings.{binary_string_at}
use Rattle.binary.proofs.binary_string_bytes.Goals as goal

pub returns-clause-answer : goal.returns-clause-answer
unfolding binary_string_at
returns-clause-answer c =
    let x = c.args in
    let e = ap (string_found x.input.now) c.binary_token.ensures in
    (handed x.out.now e (c.found_bytes.ensures.answer, c.found_bytes.ensures.written)).0

pub returns-clause-written : goal.returns-clause-written
unfolding binary_string_at
returns-clause-written c =
    let x = c.args in
    let e = ap (string_found x.input.now) c.binary_token.ensures in
    (handed x.out.now e (c.found_bytes.ensures.answer, c.found_bytes.ensures.written)).1
