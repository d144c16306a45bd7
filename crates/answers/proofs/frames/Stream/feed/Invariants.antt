use Rattle.std.proofs.Common.{length}
use Rattle.answers.proofs.frames.Stream.feed.Given as goal

abbrev pub decreases-loop-left : goal.decreases-loop-left
decreases-loop-left l = length l.left
