use Rattle.std.proofs.Common.{sym, ◌∙◌, arith}
use Rattle.std.proofs.Common.{◌/◌}
use Rattle.sh_printer.proofs.Chains.{down_within, some_nodes}
use Rattle.sh_printer.proofs.SumFits.{counting, halves_last, halves_none, halves_one, halves_split}
use Rattle.sh_printer.proofs.checking.sums.links_apart.Goals as goal

pub returns-then-count-eq0 : goal.returns-then-count-eq0
returns-then-count-eq0 c = counting _ _ _ _ c.only.result (λ check n. rw c.if-count-eq0.true (sym (halves_none check c.args.depth c.args.bits n c.args.expr.now))) (omega (arith, some_nodes c.args.expr.now)) c.only.ensures

pub returns-then-count-eq1 : goal.returns-then-count-eq1
returns-then-count-eq1 c = counting _ _ _ _ c.only-then-count-eq1.result (λ check n. rw c.if-count-eq1.true (c.link_check.ensures.counts check n ∙ sym (halves_one check c.args.depth c.args.bits n c.args.expr.now))) (omega (arith, c.link_check.ensures.rank)) c.only-then-count-eq1.ensures

pub returns-then-bits-eq0 : goal.returns-then-bits-eq0
returns-then-bits-eq0 c = counting _ _ _ _ c.only-then-bits-eq0.result (λ check n. rw c.if-bits-eq0.true (c.link_check-then-bits-eq0.ensures.counts check n ∙ sym (halves_last check c.args.depth c.args.count n c.args.expr.now (omega (arith, c.if-count-eq0.false))))) (omega (arith, c.link_check-then-bits-eq0.ensures.rank)) c.only-then-bits-eq0.ensures

pub returns : goal.returns
returns c = record { same = λ check n. rw c.below.ensures (sym (halves_split check c.args.depth c.args.bits c.args.count n c.args.expr.now (omega (arith, c.if-bits-eq0.false)) (omega (arith, c.if-count-eq0.false, c.if-count-eq1.false)))); first_less = omega (arith, some_nodes c.args.expr.now); second_less = rw c.below.ensures (omega (arith, c.if-bits-eq0.false, down_within (c.args.count / 2) c.args.expr.now)); rest_less = omega (arith, c.if-bits-eq0.false) }
