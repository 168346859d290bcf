use Rattle.std.proofs.Common.{arith}
use Rattle.sh_printer.proofs.SumJoins.{unary_joins}
use Rattle.sh_printer.specs.Pieces.{operand_of, sum_text, sum_weight}
use Rattle.sh_printing.specs.Sums.{unary_text, levelled_text}
use Rattle.sh_printer.proofs.sums.unary_apart.Goals as goal

pub returns : goal.returns
unfolding sum_text sum_weight
returns c = record { whole = λ full. rw c.unary_mark.ensures (unary_joins (unary_text c.args.op) (levelled_text (operand_of full c.args.operands) c.args.expr.now 14)); first_less = omega arith; second_less = omega arith; rest_less = omega arith }
