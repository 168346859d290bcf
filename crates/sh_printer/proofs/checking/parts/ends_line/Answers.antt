use Rattle.std.proofs.Common.{◌∙◌}
use Rattle.sh_printer.proofs.PartChecks.{last_ends}
use Rattle.sh_printer.proofs.checking.parts.ends_line.Goals as goal

pub returns-in-len1-up : goal.returns-in-len1-up
returns-in-len1-up c = c.part_ends_line.ensures ∙ last_ends c.args.parts.now c.last-item.result c.in-len1-up.len_at_least c.last-item.is
