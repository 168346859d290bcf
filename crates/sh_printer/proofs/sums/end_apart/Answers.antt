use Rattle.std.proofs.Common.{sym, ap, ◌∙◌, arith, rules}
use Rattle.std.proofs.lemmas.Int.{to_z-of_z}
use Rattle.std.specs.Fmt.{signed_decimal}
use mir.Val.{SFits}
use mir.Syntax.{w64}
use Rattle.span_text.specs.declared.expr.Expr.TheOpen as layer
use Rattle.span_text.specs.declared.expr.Expr.TheVariants as expr
use Rattle.sh_printer.specs.Pieces.{operand_of, sum_text, sum_weight}
use Rattle.sh_printer.proofs.Chains.{nodes_is, binary_opens, and_opens, or_opens, comma_opens}
use Rattle.sh_printer.proofs.Comings.{coming}
use Rattle.sh_printer.proofs.SumJoins.{opened}
use Rattle.sh_printer.proofs.sums.end_apart.Goals as goal

pub returns-in-Constant : goal.returns-in-Constant
unfolding sum_text sum_weight
returns-in-Constant c =
    let fits : SFits w64 c.in-Constant.n = search rules in
    opened c.args.operands c.args.expr.now (layer.Constant c.in-Constant.n) _ (c.in-Constant.is ∙ sym (expr.rolls-Constant c.in-Constant.n)) (coming _ _ _ _ _ (λ full. ap signed_decimal (to_z-of_z w64 c.in-Constant.n fits)) (omega arith) c.leaf_apart.ensures)

pub returns-in-Name : goal.returns-in-Name
unfolding sum_text sum_weight
returns-in-Name c = opened c.args.operands c.args.expr.now (layer.Name c.in-Name.text) _ (c.in-Name.is ∙ sym (expr.rolls-Name c.in-Name.text)) (coming _ _ _ _ _ (λ full. c.bytes.ensures) (omega arith) c.leaf_apart-in-Name.ensures)

pub returns-in-Operand : goal.returns-in-Operand
unfolding sum_text sum_weight
returns-in-Operand c = opened c.args.operands c.args.expr.now (layer.Operand c.in-Operand.n) _ (c.in-Operand.is ∙ sym (expr.rolls-Operand c.in-Operand.n)) (coming _ _ _ _ _ (λ full. c.operand_piece.ensures.text full) (omega (arith, c.operand_piece.ensures.weight)) c.piece_apart.ensures)

pub returns-in-Member : goal.returns-in-Member
unfolding sum_text sum_weight
returns-in-Member c = opened c.args.operands c.args.expr.now (layer.Member c.in-Member.text c.in-Member.a) _ (c.in-Member.is ∙ sym (expr.rolls-Member c.in-Member.text c.in-Member.a)) (rw (c.bytes-in-Member.ensures, c.get.ensures) at c.member_apart.ensures)

pub returns-in-Unary : goal.returns-in-Unary
unfolding sum_text sum_weight
returns-in-Unary c = opened c.args.operands c.args.expr.now (layer.Unary c.in-Unary.op c.in-Unary.a) _ (c.in-Unary.is ∙ sym (expr.rolls-Unary c.in-Unary.op c.in-Unary.a)) (rw c.get-in-Unary.ensures at c.unary_apart.ensures)

pub returns-in-Step : goal.returns-in-Step
unfolding sum_text sum_weight
returns-in-Step c = opened c.args.operands c.args.expr.now (layer.Step c.in-Step.op c.in-Step.a) _ (c.in-Step.is ∙ sym (expr.rolls-Step c.in-Step.op c.in-Step.a)) (rw c.get-in-Step.ensures at c.step_apart.ensures)

pub infix_apart-requires : goal.infix_apart-requires
infix_apart-requires c = rw c.get-in-Binary.ensures (omega (arith, nodes_is c.args.expr.now (layer.Binary c.in-Binary.op c.in-Binary.a c.in-Binary.field-2) (c.in-Binary.is ∙ sym (expr.rolls-Binary c.in-Binary.op c.in-Binary.a c.in-Binary.field-2))))

pub returns-in-Binary : goal.returns-in-Binary
unfolding sum_text sum_weight
returns-in-Binary c = coming _ _ _ _ _ (λ full. rw (c.get-in-Binary.ensures, c.left_level.ensures) (sym (binary_opens (operand_of full c.args.operands) c.in-Binary.op c.in-Binary.a c.in-Binary.field-2 c.args.expr.now (c.in-Binary.is ∙ sym (expr.rolls-Binary c.in-Binary.op c.in-Binary.a c.in-Binary.field-2))))) (omega arith) c.infix_apart.ensures

pub infix_apart-requires-in-And : goal.infix_apart-requires-in-And
infix_apart-requires-in-And c = rw c.get-in-And.ensures (omega (arith, nodes_is c.args.expr.now (layer.And c.in-And.a c.in-And.field-1) (c.in-And.is ∙ sym (expr.rolls-And c.in-And.a c.in-And.field-1))))

pub returns-in-And : goal.returns-in-And
unfolding sum_text sum_weight
returns-in-And c = coming _ _ _ _ _ (λ full. rw (c.get-in-And.ensures) (sym (and_opens (operand_of full c.args.operands) c.in-And.a c.in-And.field-1 c.args.expr.now (c.in-And.is ∙ sym (expr.rolls-And c.in-And.a c.in-And.field-1))))) (omega arith) c.infix_apart-in-And.ensures

pub infix_apart-requires-in-Or : goal.infix_apart-requires-in-Or
infix_apart-requires-in-Or c = rw c.get-in-Or.ensures (omega (arith, nodes_is c.args.expr.now (layer.Or c.in-Or.a c.in-Or.field-1) (c.in-Or.is ∙ sym (expr.rolls-Or c.in-Or.a c.in-Or.field-1))))

pub returns-in-Or : goal.returns-in-Or
unfolding sum_text sum_weight
returns-in-Or c = coming _ _ _ _ _ (λ full. rw (c.get-in-Or.ensures) (sym (or_opens (operand_of full c.args.operands) c.in-Or.a c.in-Or.field-1 c.args.expr.now (c.in-Or.is ∙ sym (expr.rolls-Or c.in-Or.a c.in-Or.field-1))))) (omega arith) c.infix_apart-in-Or.ensures

pub infix_apart-requires-in-Comma : goal.infix_apart-requires-in-Comma
infix_apart-requires-in-Comma c = rw c.get-in-Comma.ensures (omega (arith, nodes_is c.args.expr.now (layer.Comma c.in-Comma.a c.in-Comma.field-1) (c.in-Comma.is ∙ sym (expr.rolls-Comma c.in-Comma.a c.in-Comma.field-1))))

pub returns-in-Comma : goal.returns-in-Comma
unfolding sum_text sum_weight
returns-in-Comma c = coming _ _ _ _ _ (λ full. rw (c.get-in-Comma.ensures) (sym (comma_opens (operand_of full c.args.operands) c.in-Comma.a c.in-Comma.field-1 c.args.expr.now (c.in-Comma.is ∙ sym (expr.rolls-Comma c.in-Comma.a c.in-Comma.field-1))))) (omega arith) c.infix_apart-in-Comma.ensures

pub returns-in-Assign : goal.returns-in-Assign
unfolding sum_text sum_weight
returns-in-Assign c = opened c.args.operands c.args.expr.now (layer.Assign c.in-Assign.a c.in-Assign.op c.in-Assign.b) _ (c.in-Assign.is ∙ sym (expr.rolls-Assign c.in-Assign.a c.in-Assign.op c.in-Assign.b)) (rw (c.get-in-Assign.ensures, c.get-in-Assign-2.ensures) at c.assigned_apart.ensures)

pub returns-in-Choose : goal.returns-in-Choose
unfolding sum_text sum_weight
returns-in-Choose c = opened c.args.operands c.args.expr.now (layer.Choose c.in-Choose.a c.in-Choose.b c.in-Choose.c) _ (c.in-Choose.is ∙ sym (expr.rolls-Choose c.in-Choose.a c.in-Choose.b c.in-Choose.c)) (rw (c.get-in-Choose.ensures, c.get-in-Choose-2.ensures, c.get-in-Choose-3.ensures) at c.choice_apart.ensures)
