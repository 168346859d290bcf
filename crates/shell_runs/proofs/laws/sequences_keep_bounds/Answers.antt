use Rattle.shell_runs.proofs.Monotone.{under_after, under_from}
use Rattle.shell_runs.proofs.Combined.{under_if_normal}
use Rattle.shell_runs.proofs.laws.sequences_keep_bounds.Goals as goal

-- src/laws.rt:16:1
pub returns-clause-next : goal.returns-clause-next
returns-clause-next g c = under_after

-- src/laws.rt:16:1
pub returns-clause-next_of_state : goal.returns-clause-next_of_state
returns-clause-next_of_state g c = under_from

-- src/laws.rt:16:1
pub returns-clause-normal : goal.returns-clause-normal
returns-clause-normal g c = under_if_normal
