use Rattle.sh_interp.proofs.turns.shell_left.Goals as goal

pub returns : goal.returns
returns c = c.leave_shell.ensures c.args.flow
