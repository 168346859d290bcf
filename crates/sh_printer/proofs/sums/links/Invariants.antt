use Rattle.std.proofs.Common.{◌≡◌}
use Rattle.sh_printer.specs.Chains.{Chained, down}
use Rattle.sh_printer.proofs.sums.links.Given as goal

abbrev pub invariant-loop-count : goal.invariant-loop-count
invariant-loop-count l = (l.now ≡ down l.count l.expr) × Chained l.count l.expr
