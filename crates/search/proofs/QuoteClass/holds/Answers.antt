-- `holds` meets its contract.
use mathlib.Core.Path.{refl}
use Rattle.marks.specs.Classes.{is_quote}
use Rattle.search.proofs.QuoteClass.holds.Goals as goal

pub returns : goal.returns
unfolding is_quote
returns c = refl
