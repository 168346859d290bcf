use Rattle.shell_runs.proofs.Combined.{under_items}
use Rattle.shell_runs.proofs.laws.loops_and_calls_keep_bounds.Goals as goal

-- src/laws.rt:26:1
pub returns-clause-items : goal.returns-clause-items
returns-clause-items g c = under_items
