use Rattle.std.proofs.Common.{sym, arith}
use Rattle.std.proofs.lemmas.List.{append-nil}
use Rattle.sh_printer.specs.Chains.{down}
use Rattle.sh_printer.specs.Pieces.{operand_of, sum_text, sum_weight}
use Rattle.sh_printing.specs.Sums.{levelled_text}
use Rattle.sh_printer.proofs.Chains.{chain_text, down_less, halves_are}
use Rattle.sh_printer.proofs.sums.bare_apart.Goals as goal

pub returns : goal.returns
unfolding sum_text sum_weight
returns c =
    let less = down_less c.links-count.result c.args.expr.now (omega (arith, c.if-count-eq0.false)) c.links-count.ensures.chained in
    record {
      whole = λ full. rw (c.below.ensures, append-nil (levelled_text (operand_of full c.args.operands) (down c.links-count.result c.args.expr.now) 0), halves_are (operand_of full c.args.operands) 64 c.links-count.result c.args.expr.now (omega arith)) (sym (chain_text (operand_of full c.args.operands) c.links-count.result c.args.expr.now c.links-count.ensures.chained));
      first_less = rw c.below.ensures (omega (arith, less));
      second_less = omega arith;
      rest_less = omega arith;
    }
