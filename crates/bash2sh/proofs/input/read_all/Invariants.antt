use Rattle.std.proofs.Common.{length, ◌+◌, ◌-◌, ◌≡◌}
use Rattle.bash2sh.proofs.Inputs.{SoFar}
use Rattle.bash2sh.proofs.input.read_all.Given as goal

abbrev pub invariant-pieces : goal.invariant-pieces
invariant-pieces g l = SoFar l.limit (g.S.Source.left l.initial.source) (g.S.Source.left l.source) (g.S.Source.faults l.initial.source) (g.S.Source.faults l.source) l.text × (length l.buffer ≡ 4096)

abbrev pub decreases-pieces : goal.decreases-pieces
decreases-pieces g l = (l.limit + 1) - length l.text
