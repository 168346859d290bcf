use Rattle.std.proofs.Common.{◌≡◌}
use Rattle.sh_printer.specs.Chains.{down}
use Rattle.sh_printer.proofs.sums.below.Given as goal

abbrev pub invariant-loop-step : goal.invariant-loop-step
invariant-loop-step l = l.now ≡ down l._step l.expr
