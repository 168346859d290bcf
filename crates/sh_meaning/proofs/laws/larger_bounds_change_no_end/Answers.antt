use Rattle.sh_meaning.proofs.WholeRuns.{run_later, run_trace_later, result_spends}
use Rattle.sh_meaning.proofs.laws.larger_bounds_change_no_end.Goals as goal

-- src/laws.rt:18:1
pub returns-clause-ends : goal.returns-clause-ends
returns-clause-ends c = run_later

-- src/laws.rt:18:1
pub returns-clause-records : goal.returns-clause-records
returns-clause-records c = run_trace_later

-- src/laws.rt:18:1
pub returns-clause-turns : goal.returns-clause-turns
returns-clause-turns c = result_spends
