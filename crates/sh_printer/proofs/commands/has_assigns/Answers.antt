use Rattle.sh_printer.proofs.CommandTexts.{some_assigns}
use Rattle.sh_printer.proofs.commands.has_assigns.Goals as goal

pub returns-in-len1-up : goal.returns-in-len1-up
returns-in-len1-up c = some_assigns c.args.assigns.now c.in-len1-up.len_at_least
