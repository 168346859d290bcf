use Rattle.std.proofs.Common.{Bool, sym, ap, ◌∙◌}
use Rattle.sh_printer.specs.SumChecks.{power_fits}
use Rattle.std.proofs.Common.{◌+◌}
use Rattle.span_text.specs.declared.sign.Infix.TheVariants.{Plain}
use Rattle.span_text.specs.Expressions.{level}
use Rattle.sh_printer.proofs.checking.sums.power_check.Goals as goal

pub returns-then-is_power-clause-counts : goal.returns-then-is_power-clause-counts
returns-then-is_power-clause-counts c = λ check n. ap (λ (b : Bool). power_fits b check c.args.operand.now (level (Plain c.args.op) + 1) c.args.depth n) (sym (sym c.is_power.ensures ∙ c.if-is_power.true))

pub returns-clause-counts : goal.returns-clause-counts
returns-clause-counts c = λ check n. rw c.binary_level.ensures (ap (λ (b : Bool). power_fits b check c.args.operand.now (level (Plain c.args.op) + 1) c.args.depth n) (sym (sym c.is_power.ensures ∙ c.if-is_power.false)))
