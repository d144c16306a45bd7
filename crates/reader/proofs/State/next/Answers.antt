-- `State::next` meets its contract: what the tokens come to lies within the bytes buffered.
use mathlib.Core.Path.{◌∙◌}
use Rattle.reader.proofs.Shell.{pass_reads, binary_within}
use Rattle.reader.proofs.State.next.Goals as goal

pub hand_out-requires-clause-within : goal.hand_out-requires-clause-within
hand_out-requires-clause-within c = rw (c.pass-run.ensures ∙ pass_reads _ _ c.skip.ensures.fitting) (binary_within _ _ _ c.skip.ensures.fitting)
