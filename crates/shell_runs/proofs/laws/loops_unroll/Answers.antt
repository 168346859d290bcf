use Rattle.shell_runs.proofs.Unrolled.{loop_unrolls}
use Rattle.shell_runs.proofs.laws.loops_unroll.Goals as goal

-- src/laws.rt:50:1
pub returns : goal.returns
returns g c = loop_unrolls
