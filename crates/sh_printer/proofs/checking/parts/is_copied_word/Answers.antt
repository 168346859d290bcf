use Rattle.sh_printer.proofs.PartChecks.{many_copied}
use Rattle.sh_printer.proofs.checking.parts.is_copied_word.Goals as goal

pub returns-in-len2-up : goal.returns-in-len2-up
returns-in-len2-up c = many_copied c.args.parts.now c.in-len2-up.len_at_least
