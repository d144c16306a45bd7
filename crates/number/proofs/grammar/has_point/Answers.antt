-- `has_point` meets its contract. Assumes nothing.
use mathlib.Core.Path.{◌∙◌}
use Rattle.std.proofs.Common.{rules, tests}
use Rattle.std.proofs.lemmas.Iterator.{YieldsList-from_slice}
use Rattle.std.proofs.lemmas.Iterator.Search.{any_from_yields_List}
use Rattle.number.specs.Bytes.{is_pointed}
use Rattle.number.proofs.Runs.{any_is}
use Rattle.number.proofs.grammar.has_point.Goals as goal

pub returns : goal.returns
returns c =
    any_from_yields_List is_pointed _ _ _ c.any.ensures.ran (YieldsList-from_slice _ c.iter.ensures.rest) (λ x b q k. search (rules, tests))
    ∙ any_is is_pointed c.args.t.now
