use Rattle.sh_printer.proofs.PartChecks.{many_literal}
use Rattle.sh_printer.proofs.checking.parts.literal_body.Goals as goal

pub returns-in-len2-up : goal.returns-in-len2-up
returns-in-len2-up c = many_literal c.args.in_body c.args.parts.now c.in-len2-up.len_at_least
