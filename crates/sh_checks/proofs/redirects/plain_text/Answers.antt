use Rattle.std.proofs.Common.{◌∙◌}
use Rattle.sh_checks.proofs.Loops.{plain_first}
use Rattle.sh_checks.proofs.redirects.plain_text.Goals as goal

pub returns-in-len1-up : goal.returns-in-len1-up
returns-in-len1-up c = c.plain_of.ensures ∙ plain_first c.args.parts.now c.first-item.result c.in-len1-up.len_at_least c.first-item.is
