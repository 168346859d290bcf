use Rattle.std.proofs.Common.{arith}
use Rattle.sh_printer.proofs.SumJoins.{member_joins}
use Rattle.sh_printer.specs.Pieces.{operand_of, sum_text, sum_weight}
use Rattle.sh_printing.specs.Sums.{levelled_text}
use Rattle.sh_printer.proofs.sums.member_apart.Goals as goal

pub returns : goal.returns
unfolding sum_text sum_weight
returns c = record { whole = λ full. member_joins c.args.name.now (levelled_text (operand_of full c.args.operands) c.args.index.now 0); first_less = omega arith; second_less = omega arith; rest_less = omega arith }
