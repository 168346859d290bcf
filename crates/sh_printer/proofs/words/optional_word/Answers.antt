use Rattle.std.proofs.Common.{refl, arith}
use Rattle.sh_printer.specs.Pieces.{word_text, word_weight}
use Rattle.sh_printer.proofs.words.optional_word.Goals as goal

pub returns-in-None-clause-text : goal.returns-in-None-clause-text
returns-in-None-clause-text c = λ full. rw c.in-None.is refl

pub returns-in-Some-clause-text : goal.returns-in-Some-clause-text
unfolding word_text word_weight
returns-in-Some-clause-text c = λ full. rw c.in-Some.is refl

pub returns-in-Some-clause-weight : goal.returns-in-Some-clause-weight
unfolding word_text word_weight
returns-in-Some-clause-weight c = rw c.in-Some.is (omega arith)
