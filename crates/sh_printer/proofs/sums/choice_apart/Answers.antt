use Rattle.std.proofs.Common.{arith}
use Rattle.std.specs.Prelude.{codes}
use Rattle.sh_printer.proofs.SumJoins.{choice_joins}
use Rattle.sh_printer.specs.Pieces.{operand_of, sum_text, sum_weight}
use Rattle.sh_printing.specs.Sums.{levelled_text}
use Rattle.sh_printer.proofs.sums.choice_apart.Goals as goal

pub returns : goal.returns
unfolding sum_text sum_weight
returns c = record { whole = λ full. choice_joins (levelled_text (operand_of full c.args.operands) c.args.test.now 3) (codes "?") (levelled_text (operand_of full c.args.operands) c.args.then.now 0) (codes ":") (levelled_text (operand_of full c.args.operands) c.args.otherwise.now 2); first_less = omega arith; second_less = omega arith; rest_less = omega arith }
