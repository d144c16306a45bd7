-- `unescape` meets its contract: the bytes of a string by what its token says.
use mathlib.Core.Path.{sym}
use native.Mathlib.Omega.{arith}
use Rattle.unescape.proofs.Answers.{is_string, plain_string, string_from, pieces_from}
use Rattle.unescape.proofs.unescape.Goals as goal

pub undo-requires : goal.undo-requires
undo-requires c = grind (arith, pieces_from c.args.input.now c.args.at _ _ _ (sym c.in_ok-token.ensures))

pub unreachable-requires : goal.unreachable-requires
unreachable-requires c = grind (arith, is_string c.args.input.now c.args.at _ _ _ (sym c.in_ok-token.ensures))

pub returns-in-Some-Plain-clause-answer : goal.returns-in-Some-Plain-clause-answer
returns-in-Some-Plain-clause-answer c = grind (arith, plain_string c.args.input.now c.args.at _ _ _ (sym c.in_ok-token.ensures))

pub returns-in-Some-Plain-clause-written : goal.returns-in-Some-Plain-clause-written
returns-in-Some-Plain-clause-written c = grind (arith, plain_string c.args.input.now c.args.at _ _ _ (sym c.in_ok-token.ensures))

pub returns-in-Some-Quoted-clause-answer : goal.returns-in-Some-Quoted-clause-answer
returns-in-Some-Quoted-clause-answer c = grind (arith, string_from c.args.input.now c.args.at _ _ _ (sym c.in_ok-token.ensures))

pub returns-in-Some-Quoted-clause-written : goal.returns-in-Some-Quoted-clause-written
returns-in-Some-Quoted-clause-written c = grind (arith, string_from c.args.input.now c.args.at _ _ _ (sym c.in_ok-token.ensures))
