use Rattle.std.proofs.Common.{refl, sym}
use Rattle.span_text.specs.declared.expr.Expr.TheOpen as layer
use Rattle.span_text.specs.declared.expr.Expr.TheVariants as expr
use Rattle.sh_printer.proofs.SumTexts.{own_is}
use Rattle.sh_printer.proofs.sums.level.Goals as goal

pub returns-in-Comma : goal.returns-in-Comma
returns-in-Comma c = rw (c.in-Comma.is, own_is (expr.Comma c.in-Comma.field-0 c.in-Comma.field-1) (layer.Comma c.in-Comma.field-0 c.in-Comma.field-1) (sym (expr.rolls-Comma c.in-Comma.field-0 c.in-Comma.field-1))) refl

pub returns-in-Or : goal.returns-in-Or
returns-in-Or c = rw (c.in-Or.is, own_is (expr.Or c.in-Or.field-0 c.in-Or.field-1) (layer.Or c.in-Or.field-0 c.in-Or.field-1) (sym (expr.rolls-Or c.in-Or.field-0 c.in-Or.field-1))) refl

pub returns-in-And : goal.returns-in-And
returns-in-And c = rw (c.in-And.is, own_is (expr.And c.in-And.field-0 c.in-And.field-1) (layer.And c.in-And.field-0 c.in-And.field-1) (sym (expr.rolls-And c.in-And.field-0 c.in-And.field-1))) refl

pub returns-in-Binary : goal.returns-in-Binary
returns-in-Binary c = rw (c.in-Binary.is, own_is (expr.Binary c.in-Binary.op c.in-Binary.field-1 c.in-Binary.field-2) (layer.Binary c.in-Binary.op c.in-Binary.field-1 c.in-Binary.field-2) (sym (expr.rolls-Binary c.in-Binary.op c.in-Binary.field-1 c.in-Binary.field-2))) c.binary_level.ensures

pub returns-in-Assign : goal.returns-in-Assign
returns-in-Assign c = rw (c.in-Assign.is, own_is (expr.Assign c.in-Assign.field-0 c.in-Assign.field-1 c.in-Assign.field-2) (layer.Assign c.in-Assign.field-0 c.in-Assign.field-1 c.in-Assign.field-2) (sym (expr.rolls-Assign c.in-Assign.field-0 c.in-Assign.field-1 c.in-Assign.field-2))) refl

pub returns-in-Choose : goal.returns-in-Choose
returns-in-Choose c = rw (c.in-Choose.is, own_is (expr.Choose c.in-Choose.field-0 c.in-Choose.field-1 c.in-Choose.field-2) (layer.Choose c.in-Choose.field-0 c.in-Choose.field-1 c.in-Choose.field-2) (sym (expr.rolls-Choose c.in-Choose.field-0 c.in-Choose.field-1 c.in-Choose.field-2))) refl

pub returns-in-Unary : goal.returns-in-Unary
returns-in-Unary c = rw (c.in-Unary.is, own_is (expr.Unary c.in-Unary.field-0 c.in-Unary.field-1) (layer.Unary c.in-Unary.field-0 c.in-Unary.field-1) (sym (expr.rolls-Unary c.in-Unary.field-0 c.in-Unary.field-1))) refl

pub returns-in-Step : goal.returns-in-Step
returns-in-Step c = rw (c.in-Step.is, own_is (expr.Step c.in-Step.field-0 c.in-Step.field-1) (layer.Step c.in-Step.field-0 c.in-Step.field-1) (sym (expr.rolls-Step c.in-Step.field-0 c.in-Step.field-1))) refl

pub returns-in-Member : goal.returns-in-Member
returns-in-Member c = rw (c.in-Member.is, own_is (expr.Member c.in-Member.field-0 c.in-Member.field-1) (layer.Member c.in-Member.field-0 c.in-Member.field-1) (sym (expr.rolls-Member c.in-Member.field-0 c.in-Member.field-1))) refl

pub returns-in-Constant : goal.returns-in-Constant
returns-in-Constant c = rw (c.in-Constant.is, own_is (expr.Constant c.in-Constant.field-0) (layer.Constant c.in-Constant.field-0) (sym (expr.rolls-Constant c.in-Constant.field-0))) refl

pub returns-in-Name : goal.returns-in-Name
returns-in-Name c = rw (c.in-Name.is, own_is (expr.Name c.in-Name.field-0) (layer.Name c.in-Name.field-0) (sym (expr.rolls-Name c.in-Name.field-0))) refl

pub returns-in-Operand : goal.returns-in-Operand
returns-in-Operand c = rw (c.in-Operand.is, own_is (expr.Operand c.in-Operand.field-0) (layer.Operand c.in-Operand.field-0) (sym (expr.rolls-Operand c.in-Operand.field-0))) refl
