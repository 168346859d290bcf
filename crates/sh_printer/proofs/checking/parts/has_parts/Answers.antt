use Rattle.sh_printer.proofs.PartChecks.{some_parts}
use Rattle.sh_printer.proofs.checking.parts.has_parts.Goals as goal

pub returns-in-len1-up : goal.returns-in-len1-up
returns-in-len1-up c = some_parts c.args.parts.now c.in-len1-up.len_at_least
