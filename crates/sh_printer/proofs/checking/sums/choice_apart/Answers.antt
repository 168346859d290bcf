use Rattle.std.proofs.Common.{refl, arith}
use Rattle.sh_printer.proofs.checking.sums.choice_apart.Goals as goal

pub returns : goal.returns
returns c = record { same = λ check n. refl; first_less = omega arith; second_less = omega arith; rest_less = omega arith }
