use Rattle.std.proofs.Common.{refl, arith}
use Rattle.sh_printer.specs.Pieces.{sum_text, sum_weight}
use Rattle.sh_printer.proofs.words.arith_apart.Goals as goal

pub returns : goal.returns
unfolding sum_text sum_weight
returns c =
    record {
      whole = λ full. rw c.as_slice.ensures refl;
      first_less = omega arith;
      second_less = rw c.as_slice.ensures (omega arith);
      rest_less = omega arith;
    }
