use Rattle.std.proofs.Common.{sym, ◌∙◌, arith}
use Rattle.span_text.specs.declared.expr.Expr.TheOpen as layer
use Rattle.span_text.specs.declared.expr.Expr.TheVariants as expr
use Rattle.sh_printer.proofs.SumFits.{last_one}
use Rattle.sh_printer.proofs.Chains.{nodes_is, some_nodes}
use Rattle.sh_printer.proofs.checking.sums.link_check.Goals as goal

pub returns-in-Binary-clause-counts : goal.returns-in-Binary-clause-counts
returns-in-Binary-clause-counts c = λ check n. (rw c.get.ensures at c.power_check.ensures.counts check n) ∙ sym (last_one check c.args.depth n c.args.expr.now (layer.Binary c.in-Binary.op c.in-Binary.field-1 c.in-Binary.b) (c.in-Binary.is ∙ sym (expr.rolls-Binary c.in-Binary.op c.in-Binary.field-1 c.in-Binary.b)))

pub returns-in-Binary-clause-rank : goal.returns-in-Binary-clause-rank
returns-in-Binary-clause-rank c = omega (arith, rw c.get.ensures at c.power_check.ensures.rank, nodes_is c.args.expr.now (layer.Binary c.in-Binary.op c.in-Binary.field-1 c.in-Binary.b) (c.in-Binary.is ∙ sym (expr.rolls-Binary c.in-Binary.op c.in-Binary.field-1 c.in-Binary.b)))

pub returns-in-And-clause-counts : goal.returns-in-And-clause-counts
returns-in-And-clause-counts c = λ check n. rw c.get-in-And.ensures (sym (last_one check c.args.depth n c.args.expr.now (layer.And c.in-And.field-0 c.in-And.b) (c.in-And.is ∙ sym (expr.rolls-And c.in-And.field-0 c.in-And.b))))

pub returns-in-And-clause-rank : goal.returns-in-And-clause-rank
returns-in-And-clause-rank c = rw c.get-in-And.ensures (omega (arith, nodes_is c.args.expr.now (layer.And c.in-And.field-0 c.in-And.b) (c.in-And.is ∙ sym (expr.rolls-And c.in-And.field-0 c.in-And.b))))

pub returns-in-Or-clause-counts : goal.returns-in-Or-clause-counts
returns-in-Or-clause-counts c = λ check n. rw c.get-in-Or.ensures (sym (last_one check c.args.depth n c.args.expr.now (layer.Or c.in-Or.field-0 c.in-Or.b) (c.in-Or.is ∙ sym (expr.rolls-Or c.in-Or.field-0 c.in-Or.b))))

pub returns-in-Or-clause-rank : goal.returns-in-Or-clause-rank
returns-in-Or-clause-rank c = rw c.get-in-Or.ensures (omega (arith, nodes_is c.args.expr.now (layer.Or c.in-Or.field-0 c.in-Or.b) (c.in-Or.is ∙ sym (expr.rolls-Or c.in-Or.field-0 c.in-Or.b))))

pub returns-in-Comma-clause-counts : goal.returns-in-Comma-clause-counts
returns-in-Comma-clause-counts c = λ check n. sym (last_one check c.args.depth n c.args.expr.now (layer.Comma c.in-Comma.field-0 c.in-Comma.field-1) (c.in-Comma.is ∙ sym (expr.rolls-Comma c.in-Comma.field-0 c.in-Comma.field-1)))

pub returns-in-Comma-clause-rank : goal.returns-in-Comma-clause-rank
returns-in-Comma-clause-rank c = omega (arith, some_nodes c.args.expr.now)

pub returns-in-Constant-clause-counts : goal.returns-in-Constant-clause-counts
returns-in-Constant-clause-counts c = λ check n. sym (last_one check c.args.depth n c.args.expr.now (layer.Constant c.in-Constant.field-0) (c.in-Constant.is ∙ sym (expr.rolls-Constant c.in-Constant.field-0)))

pub returns-in-Constant-clause-rank : goal.returns-in-Constant-clause-rank
returns-in-Constant-clause-rank c = omega (arith, some_nodes c.args.expr.now)

pub returns-in-Name-clause-counts : goal.returns-in-Name-clause-counts
returns-in-Name-clause-counts c = λ check n. sym (last_one check c.args.depth n c.args.expr.now (layer.Name c.in-Name.field-0) (c.in-Name.is ∙ sym (expr.rolls-Name c.in-Name.field-0)))

pub returns-in-Name-clause-rank : goal.returns-in-Name-clause-rank
returns-in-Name-clause-rank c = omega (arith, some_nodes c.args.expr.now)

pub returns-in-Operand-clause-counts : goal.returns-in-Operand-clause-counts
returns-in-Operand-clause-counts c = λ check n. sym (last_one check c.args.depth n c.args.expr.now (layer.Operand c.in-Operand.field-0) (c.in-Operand.is ∙ sym (expr.rolls-Operand c.in-Operand.field-0)))

pub returns-in-Operand-clause-rank : goal.returns-in-Operand-clause-rank
returns-in-Operand-clause-rank c = omega (arith, some_nodes c.args.expr.now)

pub returns-in-Member-clause-counts : goal.returns-in-Member-clause-counts
returns-in-Member-clause-counts c = λ check n. sym (last_one check c.args.depth n c.args.expr.now (layer.Member c.in-Member.field-0 c.in-Member.field-1) (c.in-Member.is ∙ sym (expr.rolls-Member c.in-Member.field-0 c.in-Member.field-1)))

pub returns-in-Member-clause-rank : goal.returns-in-Member-clause-rank
returns-in-Member-clause-rank c = omega (arith, some_nodes c.args.expr.now)

pub returns-in-Unary-clause-counts : goal.returns-in-Unary-clause-counts
returns-in-Unary-clause-counts c = λ check n. sym (last_one check c.args.depth n c.args.expr.now (layer.Unary c.in-Unary.field-0 c.in-Unary.field-1) (c.in-Unary.is ∙ sym (expr.rolls-Unary c.in-Unary.field-0 c.in-Unary.field-1)))

pub returns-in-Unary-clause-rank : goal.returns-in-Unary-clause-rank
returns-in-Unary-clause-rank c = omega (arith, some_nodes c.args.expr.now)

pub returns-in-Step-clause-counts : goal.returns-in-Step-clause-counts
returns-in-Step-clause-counts c = λ check n. sym (last_one check c.args.depth n c.args.expr.now (layer.Step c.in-Step.field-0 c.in-Step.field-1) (c.in-Step.is ∙ sym (expr.rolls-Step c.in-Step.field-0 c.in-Step.field-1)))

pub returns-in-Step-clause-rank : goal.returns-in-Step-clause-rank
returns-in-Step-clause-rank c = omega (arith, some_nodes c.args.expr.now)

pub returns-in-Assign-clause-counts : goal.returns-in-Assign-clause-counts
returns-in-Assign-clause-counts c = λ check n. sym (last_one check c.args.depth n c.args.expr.now (layer.Assign c.in-Assign.field-0 c.in-Assign.field-1 c.in-Assign.field-2) (c.in-Assign.is ∙ sym (expr.rolls-Assign c.in-Assign.field-0 c.in-Assign.field-1 c.in-Assign.field-2)))

pub returns-in-Assign-clause-rank : goal.returns-in-Assign-clause-rank
returns-in-Assign-clause-rank c = omega (arith, some_nodes c.args.expr.now)

pub returns-in-Choose-clause-counts : goal.returns-in-Choose-clause-counts
returns-in-Choose-clause-counts c = λ check n. sym (last_one check c.args.depth n c.args.expr.now (layer.Choose c.in-Choose.field-0 c.in-Choose.field-1 c.in-Choose.field-2) (c.in-Choose.is ∙ sym (expr.rolls-Choose c.in-Choose.field-0 c.in-Choose.field-1 c.in-Choose.field-2)))

pub returns-in-Choose-clause-rank : goal.returns-in-Choose-clause-rank
returns-in-Choose-clause-rank c = omega (arith, some_nodes c.args.expr.now)
