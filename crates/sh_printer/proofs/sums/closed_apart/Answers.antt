use Rattle.std.proofs.Common.{refl, arith}
use Rattle.sh_printer.specs.Pieces.{sum_text, sum_weight}
use Rattle.sh_printer.proofs.sums.closed_apart.Goals as goal

pub returns : goal.returns
unfolding sum_text sum_weight
returns c = record { whole = λ full. refl; first_less = omega arith; second_less = omega arith; rest_less = omega arith }
