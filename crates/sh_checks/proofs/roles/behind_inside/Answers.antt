use Rattle.std.proofs.Common.{None, Some, sym, ◌∙◌}
use Rattle.sh_checks.proofs.Loops.{inside_next}
use Rattle.sh_checks.proofs.roles.behind_inside.Goals as goal

pub returns-in-None : goal.returns-in-None
returns-in-None c = sym (inside_next c.args.parts.now c.loop-part.part-index c.part-item.result c.loop-part.rest.now None c.loop-part-test.true c.part-item.is c.in-None.ensures) ∙ c.loop-part.invariant

pub loop-part-preserved : goal.loop-part-preserved
loop-part-preserved c = sym (inside_next c.args.parts.now c.loop-part.part-index c.part-item.result c.loop-part.rest.now (Some c.in-Some.behind.now) c.loop-part-test.true c.part-item.is c.in-Some.ensures) ∙ c.loop-part.invariant
