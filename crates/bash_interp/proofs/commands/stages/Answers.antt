use Rattle.bash_interp.specs.Shells.{state_of}
use Rattle.bash_interp.proofs.Steps.{stages_stop}
use Rattle.bash_interp.proofs.commands.stages.Goals as goal

pub returns-in-len2-up : goal.returns-in-len2-up
returns-in-len2-up c = stages_stop c.args.world.now c.args.stages.now c.args.shell.now.turns (state_of c.args.shell.now) c.in-len2-up.len_at_least
