use Rattle.std.proofs.Common.{refl, arith}
use Rattle.sh_printer.proofs.checking.sums.assigned_apart.Goals as goal

pub returns : goal.returns
returns c = record { same = λ check n. rw c.assigns_to.ensures refl; first_less = omega arith; second_less = omega arith; rest_less = omega arith }
