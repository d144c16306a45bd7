-- `plain_end` meets its contract: the run ends at the first byte that is none of its bytes. Assumes nothing.
use mathlib.Core.Path.{◌∙◌}
use Rattle.words.proofs.Plain.{run_first}
use Rattle.words.proofs.plain_end.Goals as goal

pub returns : goal.returns
returns c = c.find_edge.ensures ∙ run_first _ _
