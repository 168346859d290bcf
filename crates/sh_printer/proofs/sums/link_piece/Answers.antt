use Rattle.std.proofs.Common.{refl, sym, ◌∙◌, arith}
use Rattle.span_text.specs.declared.expr.Expr.TheOpen as layer
use Rattle.span_text.specs.declared.expr.Expr.TheVariants as expr
use Rattle.sh_printer.specs.Pieces.{operand_of, sum_text, sum_weight}
use Rattle.sh_printer.proofs.Chains.{last_is, nodes_is}
use Rattle.sh_printer.proofs.sums.link_piece.Goals as goal

pub returns-in-Binary-clause-text : goal.returns-in-Binary-clause-text
unfolding sum_text
returns-in-Binary-clause-text c = λ full. rw (last_is (operand_of full c.args.operands) c.args.expr.now (layer.Binary c.in-Binary.op c.in-Binary.field-1 c.in-Binary.b) (c.in-Binary.is ∙ sym (expr.rolls-Binary c.in-Binary.op c.in-Binary.field-1 c.in-Binary.b)), c.binary_mark.ensures, c.binary_level-right.ensures, c.get.ensures) refl

pub returns-in-Binary-clause-weight : goal.returns-in-Binary-clause-weight
unfolding sum_weight
returns-in-Binary-clause-weight c = rw c.get.ensures (omega (arith, nodes_is c.args.expr.now (layer.Binary c.in-Binary.op c.in-Binary.field-1 c.in-Binary.b) (c.in-Binary.is ∙ sym (expr.rolls-Binary c.in-Binary.op c.in-Binary.field-1 c.in-Binary.b))))

pub returns-in-And-clause-text : goal.returns-in-And-clause-text
unfolding sum_text
returns-in-And-clause-text c = λ full. rw (last_is (operand_of full c.args.operands) c.args.expr.now (layer.And c.in-And.field-0 c.in-And.b) (c.in-And.is ∙ sym (expr.rolls-And c.in-And.field-0 c.in-And.b)), c.get-in-And.ensures) refl

pub returns-in-And-clause-weight : goal.returns-in-And-clause-weight
unfolding sum_weight
returns-in-And-clause-weight c = rw c.get-in-And.ensures (omega (arith, nodes_is c.args.expr.now (layer.And c.in-And.field-0 c.in-And.b) (c.in-And.is ∙ sym (expr.rolls-And c.in-And.field-0 c.in-And.b))))

pub returns-in-Or-clause-text : goal.returns-in-Or-clause-text
unfolding sum_text
returns-in-Or-clause-text c = λ full. rw (last_is (operand_of full c.args.operands) c.args.expr.now (layer.Or c.in-Or.field-0 c.in-Or.b) (c.in-Or.is ∙ sym (expr.rolls-Or c.in-Or.field-0 c.in-Or.b)), c.get-in-Or.ensures) refl

pub returns-in-Or-clause-weight : goal.returns-in-Or-clause-weight
unfolding sum_weight
returns-in-Or-clause-weight c = rw c.get-in-Or.ensures (omega (arith, nodes_is c.args.expr.now (layer.Or c.in-Or.field-0 c.in-Or.b) (c.in-Or.is ∙ sym (expr.rolls-Or c.in-Or.field-0 c.in-Or.b))))

pub returns-in-Comma-clause-text : goal.returns-in-Comma-clause-text
unfolding sum_text
returns-in-Comma-clause-text c = λ full. rw (last_is (operand_of full c.args.operands) c.args.expr.now (layer.Comma c.in-Comma.field-0 c.in-Comma.b) (c.in-Comma.is ∙ sym (expr.rolls-Comma c.in-Comma.field-0 c.in-Comma.b)), c.get-in-Comma.ensures) refl

pub returns-in-Comma-clause-weight : goal.returns-in-Comma-clause-weight
unfolding sum_weight
returns-in-Comma-clause-weight c = rw c.get-in-Comma.ensures (omega (arith, nodes_is c.args.expr.now (layer.Comma c.in-Comma.field-0 c.in-Comma.b) (c.in-Comma.is ∙ sym (expr.rolls-Comma c.in-Comma.field-0 c.in-Comma.b))))
