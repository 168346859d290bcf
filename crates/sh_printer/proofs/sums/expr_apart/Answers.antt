use Rattle.std.proofs.Common.{arith}
use Rattle.std.proofs.lemmas.Bool.{le-leb, lt-leb}
use Rattle.sh_printer.specs.Levels.{own_level}
use Rattle.sh_printer.specs.Pieces.{sum_text, sum_weight, operand_of}
use Rattle.sh_printer.proofs.SumTexts.{stands_bare, stands_closed}
use Rattle.sh_printer.proofs.sums.expr_apart.Goals as goal
use Rattle.sh_printer.proofs.sums.expr_apart.Goals.{then-wanted-level, else-wanted-level}

pub returns : goal.returns
unfolding sum_text sum_weight
returns c = elim c.if-wanted-level.branch [
  | then-wanted-level w ↦ record {
    whole = λ full. rw w.piece-is (stands_bare (operand_of full c.args.operands) c.args.expr.now c.args.wanted (le-leb c.args.wanted (own_level c.args.expr.now) (omega (arith, w.if-wanted-level.true, c.level.ensures))));
    first_less = omega arith;
    second_less = omega arith;
    rest_less = rw w.piece-is (omega arith);
  }
  | else-wanted-level w ↦ record {
    whole = λ full. rw w.piece-is (stands_closed (operand_of full c.args.operands) c.args.expr.now c.args.wanted (lt-leb c.args.wanted (own_level c.args.expr.now) (omega (arith, w.if-wanted-level.false, c.level.ensures))));
    first_less = omega arith;
    second_less = omega arith;
    rest_less = rw w.piece-is (omega arith);
  }
]
