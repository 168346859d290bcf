use Rattle.std.proofs.Common.{sym, ◌∙◌}
use Rattle.span_text.specs.declared.expr.Expr.TheOpen as layer
use Rattle.span_text.specs.declared.expr.Expr.TheVariants as expr
use Rattle.sh_printer.proofs.SumFits.{variable_one}
use Rattle.sh_printer.proofs.checking.sums.is_variable.Goals as goal

pub returns-in-Name : goal.returns-in-Name
returns-in-Name c = rw c.bytes.ensures at c.is_name.ensures ∙ sym (variable_one c.args.expr.now (layer.Name c.in-Name.text) (c.in-Name.is ∙ sym (expr.rolls-Name c.in-Name.text)))

pub returns-in-Constant : goal.returns-in-Constant
returns-in-Constant c = sym (variable_one c.args.expr.now (layer.Constant c.in-Constant.field-0) (c.in-Constant.is ∙ sym (expr.rolls-Constant c.in-Constant.field-0)))

pub returns-in-Operand : goal.returns-in-Operand
returns-in-Operand c = sym (variable_one c.args.expr.now (layer.Operand c.in-Operand.field-0) (c.in-Operand.is ∙ sym (expr.rolls-Operand c.in-Operand.field-0)))

pub returns-in-Member : goal.returns-in-Member
returns-in-Member c = sym (variable_one c.args.expr.now (layer.Member c.in-Member.field-0 c.in-Member.field-1) (c.in-Member.is ∙ sym (expr.rolls-Member c.in-Member.field-0 c.in-Member.field-1)))

pub returns-in-Unary : goal.returns-in-Unary
returns-in-Unary c = sym (variable_one c.args.expr.now (layer.Unary c.in-Unary.field-0 c.in-Unary.field-1) (c.in-Unary.is ∙ sym (expr.rolls-Unary c.in-Unary.field-0 c.in-Unary.field-1)))

pub returns-in-Step : goal.returns-in-Step
returns-in-Step c = sym (variable_one c.args.expr.now (layer.Step c.in-Step.field-0 c.in-Step.field-1) (c.in-Step.is ∙ sym (expr.rolls-Step c.in-Step.field-0 c.in-Step.field-1)))

pub returns-in-Binary : goal.returns-in-Binary
returns-in-Binary c = sym (variable_one c.args.expr.now (layer.Binary c.in-Binary.field-0 c.in-Binary.field-1 c.in-Binary.field-2) (c.in-Binary.is ∙ sym (expr.rolls-Binary c.in-Binary.field-0 c.in-Binary.field-1 c.in-Binary.field-2)))

pub returns-in-And : goal.returns-in-And
returns-in-And c = sym (variable_one c.args.expr.now (layer.And c.in-And.field-0 c.in-And.field-1) (c.in-And.is ∙ sym (expr.rolls-And c.in-And.field-0 c.in-And.field-1)))

pub returns-in-Or : goal.returns-in-Or
returns-in-Or c = sym (variable_one c.args.expr.now (layer.Or c.in-Or.field-0 c.in-Or.field-1) (c.in-Or.is ∙ sym (expr.rolls-Or c.in-Or.field-0 c.in-Or.field-1)))

pub returns-in-Comma : goal.returns-in-Comma
returns-in-Comma c = sym (variable_one c.args.expr.now (layer.Comma c.in-Comma.field-0 c.in-Comma.field-1) (c.in-Comma.is ∙ sym (expr.rolls-Comma c.in-Comma.field-0 c.in-Comma.field-1)))

pub returns-in-Assign : goal.returns-in-Assign
returns-in-Assign c = sym (variable_one c.args.expr.now (layer.Assign c.in-Assign.field-0 c.in-Assign.field-1 c.in-Assign.field-2) (c.in-Assign.is ∙ sym (expr.rolls-Assign c.in-Assign.field-0 c.in-Assign.field-1 c.in-Assign.field-2)))

pub returns-in-Choose : goal.returns-in-Choose
returns-in-Choose c = sym (variable_one c.args.expr.now (layer.Choose c.in-Choose.field-0 c.in-Choose.field-1 c.in-Choose.field-2) (c.in-Choose.is ∙ sym (expr.rolls-Choose c.in-Choose.field-0 c.in-Choose.field-1 c.in-Choose.field-2)))
