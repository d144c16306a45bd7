-- `double_ok` meets its contract: a double that takes every byte. Assumes nothing.
use mathlib.Core.Path.{◌∙◌}
use Rattle.number.proofs.Ends.{double_whole}
use Rattle.number.proofs.grammar.double_ok.Goals as goal

pub returns : goal.returns
returns c = c.eq.ensures ∙ double_whole _ _ c.sign_end-a.ensures _ c.double_end.ensures
