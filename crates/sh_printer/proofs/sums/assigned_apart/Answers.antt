use Rattle.std.proofs.Common.{arith}
use Rattle.sh_printer.proofs.SumJoins.{assigned_joins}
use Rattle.sh_printer.specs.Pieces.{operand_of, sum_text, sum_weight}
use Rattle.sh_printing.specs.Sums.{assigned_text, levelled_text}
use Rattle.sh_printer.proofs.sums.assigned_apart.Goals as goal

pub returns : goal.returns
unfolding sum_text sum_weight
returns c = record { whole = λ full. rw c.assigned_mark.ensures (assigned_joins (levelled_text (operand_of full c.args.operands) c.args.target.now 0) (assigned_text c.args.op) (levelled_text (operand_of full c.args.operands) c.args.value.now 1)); first_less = omega arith; second_less = omega arith; rest_less = omega arith }
