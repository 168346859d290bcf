use Rattle.sh_meaning.proofs.WholeRuns.{script_loop_unrolls}
use Rattle.sh_meaning.proofs.laws.loops_unroll.Goals as goal

-- src/laws.rt:25:1
pub returns : goal.returns
returns c = script_loop_unrolls
