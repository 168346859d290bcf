use Rattle.bash2sh.proofs.Reporting.{script_fits}
use Rattle.bash2sh.proofs.jobs.run_job.Goals as goal

pub run_script-requires : goal.run_script-requires
run_script-requires g c = script_fits c.args.language c.script_limit.result _ c.script_limit.ensures c.in-Ok.ensures.small
