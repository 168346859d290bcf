use Rattle.sh_builtins.specs.Views.{flow_of}
use Rattle.sh_interp.proofs.turns.script_substituted.Goals as goal

pub returns : goal.returns
returns c = c.substituted.ensures (flow_of c.args.flow)
