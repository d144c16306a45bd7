-- The functions of the cycle end, and what their loops keep. The measure of a call is four times the bytes left, and a few more by
-- function, since a function may call the next at the same place.
use Rattle.std.proofs.Common.{◌+◌, ◌-◌, ◌*◌, length}
use Rattle.automaton.specs.Step.{list, item, key}
use Rattle.scan.specs.Post.{block_of}
use Rattle.scan.proofs.Parts.{Here}
use Rattle.scan.proofs.+values.Given as goal

abbrev pub decreases-scan_attributed : goal.decreases-scan_attributed
decreases-scan_attributed l = 4 * (length l.input.now - l.p) + 3

abbrev pub decreases-scan_begun : goal.decreases-scan_begun
decreases-scan_begun l = 4 * (length l.input.now - l.p) + 2

abbrev pub decreases-scan_fragment : goal.decreases-scan_fragment
decreases-scan_fragment l = 4 * (length l.input.now - l.from) + 3

abbrev pub decreases-scan_list : goal.decreases-scan_list
decreases-scan_list l = 4 * (length l.input.now - l.from) + 3

abbrev pub decreases-scan_pair : goal.decreases-scan_pair
decreases-scan_pair l = 4 * (length l.input.now - l.at)

abbrev pub decreases-scan_tree : goal.decreases-scan_tree
decreases-scan_tree l = 4 * (length l.input.now - l.at) + 3

abbrev pub invariant-scan_fragment-loop-depth : goal.invariant-scan_fragment-loop-depth
invariant-scan_fragment-loop-depth l = Here l.format l.input (block_of l.attributes) key l.depth l.from l.at

abbrev pub decreases-scan_fragment-loop-depth : goal.decreases-scan_fragment-loop-depth
decreases-scan_fragment-loop-depth l = length l.input - l.at

abbrev pub invariant-scan_list-loop-depth : goal.invariant-scan_list-loop-depth
invariant-scan_list-loop-depth l = Here l.format l.input list item l.depth l.from l.at

abbrev pub decreases-scan_list-loop-depth : goal.decreases-scan_list-loop-depth
decreases-scan_list-loop-depth l = length l.input - l.at
