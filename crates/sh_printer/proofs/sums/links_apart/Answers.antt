use Rattle.std.proofs.Common.{sym, arith}
use Rattle.std.proofs.Common.{◌-◌, ◌/◌}
use Rattle.std.proofs.lemmas.List.{append-nil}
use Rattle.sh_printer.specs.Chains.{down, halves_text}
use Rattle.sh_printer.specs.Pieces.{operand_of, sum_text, sum_weight}
use Rattle.sh_printer.proofs.Chains.{down_within, halves_last, halves_none, halves_one, halves_split, some_nodes}
use Rattle.sh_printer.proofs.Comings.{coming}
use Rattle.sh_printer.proofs.sums.links_apart.Goals as goal

pub returns-then-count-eq0 : goal.returns-then-count-eq0
unfolding sum_text sum_weight
returns-then-count-eq0 c = coming _ _ _ _ _ (λ full. rw c.if-count-eq0.true (sym (halves_none (operand_of full c.args.operands) c.args.bits c.args.expr.now))) (omega (arith, some_nodes c.args.expr.now)) c.leaf_apart.ensures

pub returns-then-count-eq1 : goal.returns-then-count-eq1
unfolding sum_text sum_weight
returns-then-count-eq1 c = coming _ _ _ _ _ (λ full. rw (c.link_piece.ensures.text full, c.if-count-eq1.true) (sym (halves_one (operand_of full c.args.operands) c.args.bits c.args.expr.now))) (omega (arith, c.link_piece.ensures.weight)) c.piece_apart.ensures

pub returns-then-bits-eq0 : goal.returns-then-bits-eq0
unfolding sum_text sum_weight
returns-then-bits-eq0 c = coming _ _ _ _ _ (λ full. rw (c.link_piece-then-bits-eq0.ensures.text full, c.if-bits-eq0.true) (sym (halves_last (operand_of full c.args.operands) c.args.count c.args.expr.now (omega (arith, c.if-count-eq0.false))))) (omega (arith, c.link_piece-then-bits-eq0.ensures.weight)) c.piece_apart-then-bits-eq0.ensures

pub returns : goal.returns
unfolding sum_text sum_weight
returns c = record {
  whole = λ full. rw (c.below.ensures, append-nil (halves_text (operand_of full c.args.operands) (c.args.bits - 1) (down (c.args.count / 2) c.args.expr.now) (c.args.count - c.args.count / 2))) (sym (halves_split (operand_of full c.args.operands) c.args.bits c.args.count c.args.expr.now (omega (arith, c.if-bits-eq0.false)) (omega (arith, c.if-count-eq0.false, c.if-count-eq1.false))));
  first_less = rw c.below.ensures (omega (arith, c.if-bits-eq0.false, down_within (c.args.count / 2) c.args.expr.now));
  second_less = omega (arith, some_nodes c.args.expr.now);
  rest_less = omega (arith, c.if-bits-eq0.false);
}
