use Rattle.sh_printer.specs.Codes.{view_end}
use Rattle.sh_printer.proofs.CommandTexts.{more_stages}
use Rattle.sh_printer.proofs.commands.stage_end.Goals as goal

pub returns-in-len1-up : goal.returns-in-len1-up
returns-in-len1-up c = more_stages (view_end c.args.end) c.args.behind.now c.in-len1-up.len_at_least
