use Rattle.bash2sh.proofs.Ending.{ends_on_bytes}
use Rattle.bash2sh.proofs.program.run_asked.Goals as goal

pub returns-in-Ok : goal.returns-in-Ok
returns-in-Ok g c = ends_on_bytes c.args.asked c.limit.result _ _ _ _ _ _ c.run_on.result c.in-Ok.text c.bytes.result.now c.limit.ensures.is c.bytes.ensures c.in-Ok.ensures c.run_on.ensures
