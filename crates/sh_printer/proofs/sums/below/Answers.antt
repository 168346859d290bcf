use Rattle.std.proofs.Common.{refl}
use Rattle.sh_printer.specs.Chains.{down}
use Rattle.sh_printer.proofs.Chains.{further}
use Rattle.sh_printer.proofs.sums.below.Goals as goal

pub loop-step-init : goal.loop-step-init
unfolding down
loop-step-init c = refl

pub loop-step-preserved : goal.loop-step-preserved
loop-step-preserved c = further c.loop-step._step c.args.expr.now c.loop-step.now.now c.next_down-now.result.now c.loop-step.invariant c.next_down-now.ensures
