use Rattle.std.proofs.Common.{refl, arith}
use Rattle.std.proofs.lemmas.List.{append-nil}
use Rattle.sh_printer.specs.Pieces.{operand_of, sum_text, sum_weight}
use Rattle.sh_printing.specs.Sums.{levelled_text}
use Rattle.sh_printer.proofs.sums.infix_apart.Goals as goal

pub returns : goal.returns
unfolding sum_text sum_weight
returns c = record {
  whole = λ full. rw (append-nil (levelled_text (operand_of full c.args.operands) c.args.first.now c.args.wanted), c.link_piece.ensures.text full) refl;
  first_less = omega (arith, c.requires);
  second_less = omega arith;
  rest_less = omega (arith, c.link_piece.ensures.weight);
}
