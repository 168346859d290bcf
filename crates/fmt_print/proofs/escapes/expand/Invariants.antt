use Rattle.std.proofs.Common.{length}
use Rattle.fmt_print.proofs.Units.{Expands}
use Rattle.fmt_print.proofs.escapes.expand.Given as goal

abbrev pub invariant-units : goal.invariant-units
invariant-units l = Expands l.dialect l.argument l.text l.rest

abbrev pub decreases-units : goal.decreases-units
decreases-units l = length l.rest
