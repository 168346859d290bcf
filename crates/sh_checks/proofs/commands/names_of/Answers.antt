use Rattle.std.proofs.Common.{◌∙◌}
use Rattle.sh_checks.proofs.Loops.{names_next}
use Rattle.sh_checks.proofs.commands.names_of.Goals as goal

pub loop-assign-preserved : goal.loop-assign-preserved
loop-assign-preserved c =
    rw (c.in_ok-add_name.ensures, c.bytes.ensures)
    (names_next c.loop-assign.names c.args.assigns.now c.loop-assign.assign-index c.assign-item.result c.loop-assign-test.true c.assign-item.is ∙ c.loop-assign.invariant)
