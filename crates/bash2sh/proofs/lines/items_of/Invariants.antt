use Rattle.std.proofs.Common.{length}
use Rattle.bash2sh.proofs.Rest.{SoFar}
use Rattle.bash2sh.proofs.lines.items_of.Given as goal

abbrev pub invariant-lines : goal.invariant-lines
invariant-lines l = SoFar l.text l.rest l.items

abbrev pub decreases-lines : goal.decreases-lines
decreases-lines l = length l.rest
