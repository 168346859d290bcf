use Rattle.std.proofs.Common.{refl, sym, ap, ◌∙◌, arith}
use Rattle.std.specs.Prelude.{Option}
use Rattle.span_text.specs.declared.expr.Expr.{Expr}
use Rattle.sh_printer.specs.Chains.{down, has_first, has_first_by, next_by}
use Rattle.sh_printer.proofs.Chains.{further, still_chained}
use Rattle.sh_printer.proofs.sums.links.Goals as goal

pub loop-count-init : goal.loop-count-init
unfolding down
loop-count-init c = (refl, λ k lt. absurd (omega arith))

pub returns-in-None-clause-ends : goal.returns-in-None-clause-ends
returns-in-None-clause-ends c = λ more. sym (ap has_first c.loop-count.invariant.0) ∙ ap has_first_by (sym (c.in-None.ensures))

pub loop-count-preserved : goal.loop-count-preserved
loop-count-preserved c =
    let first = sym (c.in-Some.ensures) in (
      further c.loop-count.count c.args.expr.now c.loop-count.now.now c.in-Some.first.now c.loop-count.invariant.0 (sym (ap (λ (o : Option Expr). next_by c.loop-count.now.now o) first)),
      still_chained c.loop-count.count c.args.expr.now c.loop-count.now.now c.loop-count.invariant.0 (ap has_first_by first) c.loop-count.invariant.1,
    )
