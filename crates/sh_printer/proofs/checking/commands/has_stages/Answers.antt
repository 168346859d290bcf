use Rattle.sh_printer.proofs.CommandChecks.{some_stages}
use Rattle.sh_printer.proofs.checking.commands.has_stages.Goals as goal

pub returns-in-len1-up : goal.returns-in-len1-up
returns-in-len1-up c = some_stages c.args.stages.now c.in-len1-up.len_at_least
