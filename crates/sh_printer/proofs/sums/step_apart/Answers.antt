use Rattle.std.proofs.Common.{arith}
use Rattle.sh_printer.proofs.SumJoins.{step_joins}
use Rattle.sh_printer.specs.Pieces.{operand_of, sum_text, sum_weight}
use Rattle.sh_printing.specs.Sums.{before_target, behind_target, levelled_text}
use Rattle.sh_printer.proofs.sums.step_apart.Goals as goal

pub returns : goal.returns
unfolding sum_text sum_weight
returns c = record { whole = λ full. rw (c.before_target.ensures, c.behind_target.ensures) (step_joins (before_target c.args.op) (levelled_text (operand_of full c.args.operands) c.args.target.now 0) (behind_target c.args.op)); first_less = omega arith; second_less = omega arith; rest_less = omega arith }
