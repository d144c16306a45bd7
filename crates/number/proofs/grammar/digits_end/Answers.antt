-- `digits_end` meets its contract: a run of digits ends at the first byte that is none. Assumes nothing.
use Rattle.number.proofs.Ends.{run_first}
use Rattle.number.proofs.grammar.digits_end.Goals as goal

pub returns : goal.returns
returns c = run_first _ _ _ c.find_other.ensures
