-- `text_end` meets its contract. Assumes nothing.
use mathlib.Core.Bool.{not}
use Rattle.std.proofs.Common.{rules, tests}
use Rattle.std.proofs.lemmas.Iterator.{YieldsList-from_slice}
use Rattle.std.proofs.lemmas.Iterator.Search.{position_from_yields_List}
use Rattle.number.specs.Bytes.{is_text}
use Rattle.number.proofs.Runs.{position_past}
use Rattle.number.proofs.grammar.text_end.Goals as goal

pub returns : goal.returns
returns c =
    position_past is_text c.args.s.now c.args.at c.unwrap_or.result c.position.result c.requires
    (position_from_yields_List (λ b. not (is_text b)) _ _ _ c.position.ensures.ran (YieldsList-from_slice _ c.iter.ensures.rest) (λ x b q k. search (rules, tests)))
    c.unwrap_or.ensures
