use Rattle.std.proofs.Common.{◌∷◌, ◌++◌, [], refl, arith}
use Rattle.std.proofs.lemmas.List.{append-nil}
use Rattle.sh_printer.specs.Pieces.{sum_text, sum_weight}
use Rattle.sh_printer.proofs.sums.behind_apart.Goals as goal

pub returns : goal.returns
unfolding sum_text sum_weight
returns c = record { whole = λ full. rw (append-nil (c.args.mark.now ++ 32 ∷ [])) refl; first_less = omega arith; second_less = omega arith; rest_less = omega arith }
