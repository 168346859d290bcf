use Rattle.sh_printer.proofs.CommandChecks.{some_branches}
use Rattle.sh_printer.proofs.checking.commands.has_branches.Goals as goal

pub returns-in-len1-up : goal.returns-in-len1-up
returns-in-len1-up c = some_branches c.args.branches.now c.in-len1-up.len_at_least
