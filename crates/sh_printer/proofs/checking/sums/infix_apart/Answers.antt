use Rattle.std.proofs.Common.{refl, arith}
use Rattle.sh_printer.specs.SumChecks.{fits, last_fits, sum_counts}
use Rattle.sh_printer.proofs.SumFits.{bind_same}
use Rattle.sh_printer.proofs.checking.sums.infix_apart.Goals as goal

pub returns : goal.returns
returns c = record { same = λ check n. bind_same (fits check c.args.first.now c.args.wanted c.args.depth n) (fits check c.args.first.now c.args.wanted c.args.depth n) (sum_counts check c.link_check.result) (last_fits check c.args.expr.now c.args.depth) refl (λ k. c.link_check.ensures.counts check k); first_less = omega arith; second_less = omega (arith, c.requires); rest_less = omega (arith, c.link_check.ensures.rank) }
