use Rattle.sh_printer.proofs.CommandChecks.{some_chains}
use Rattle.sh_printer.proofs.checking.commands.has_chains.Goals as goal

pub returns-in-len1-up : goal.returns-in-len1-up
returns-in-len1-up c = some_chains c.args.items.now c.in-len1-up.len_at_least
