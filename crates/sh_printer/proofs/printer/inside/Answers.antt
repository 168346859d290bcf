use Rattle.std.proofs.Common.{refl, arith}
use Rattle.sh_printer.specs.Pieces.{word_text, word_weight}
use Rattle.sh_printer.proofs.printer.inside.Goals as goal

pub returns-clause-text : goal.returns-clause-text
unfolding word_text word_weight
returns-clause-text c = λ full. refl

pub returns-clause-weight : goal.returns-clause-weight
unfolding word_text word_weight
returns-clause-weight c = omega arith
