use Rattle.std.proofs.Common.{arith}
use Rattle.sh_printer.proofs.Chains.{down_less}
use Rattle.sh_printer.proofs.SumFits.{chain_halves}
use Rattle.sh_printer.proofs.checking.sums.bare_apart.Goals as goal

pub returns : goal.returns
returns c =
    let less = down_less c.links-count.result c.args.expr.now (omega (arith, c.if-count-eq0.false)) c.links-count.ensures.chained in
    record { same = λ check n. rw c.below.ensures (chain_halves check c.args.depth n c.links-count.result c.args.expr.now (omega arith) c.links-count.ensures.chained); first_less = omega arith; second_less = rw c.below.ensures (omega (arith, less)); rest_less = omega arith }
