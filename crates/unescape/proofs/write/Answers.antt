-- `write` meets its contract: n bytes are written, and what the pieces from each place on give, laid over the rest of the output,
-- comes to what those from the start give, laid over all of it.
use mathlib.Core.Path.{sym, ◌∙◌}
use native.Mathlib.Omega.{arith}
use Rattle.std.proofs.lemmas.List.{set-get_or}
use Rattle.pieces.proofs.Sizes.{escape_size}
use Rattle.unescape.proofs.Writes.{written_broken}
use Rattle.unescape.proofs.write.Goals as goal

pub returns-in_default-escape : goal.returns-in_default-escape
returns-in_default-escape c =
    let z = c.in-Some.ensures.lookup.3 in
    set-get_or _ _ _ ∙ written_broken _ _ _ _ z.0 (sym (z.1 0) ∙ c.in-92.is) _ c.in_default-escape.ensures ∙ c.loop-slot.invariant

pub overflow_add-p-in-92 : goal.overflow_add-p-in-92
overflow_add-p-in-92 c = grind (arith, escape_size _ _ _ c.in-Ok.ensures)
