use Rattle.sh_printer.proofs.CommandChecks.{some_redirects}
use Rattle.sh_printer.proofs.checking.commands.has_redirects.Goals as goal

pub returns-in-len1-up : goal.returns-in-len1-up
returns-in-len1-up c = some_redirects c.args.redirects.now c.in-len1-up.len_at_least
