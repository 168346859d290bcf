use Rattle.std.proofs.Common.{sym, arith}
use Rattle.std.proofs.lemmas.Bool.Decides.{nat_tests}
use Rattle.fmt_print.proofs.Checks.{whole_plain}
use Rattle.fmt_print.proofs.check.plain.Goals as goal

pub returns-in_default : goal.returns-in_default
returns-in_default c rest = sym (whole_plain c.args.byte rest (grind (arith, nat_tests)) (grind (arith, nat_tests)))
