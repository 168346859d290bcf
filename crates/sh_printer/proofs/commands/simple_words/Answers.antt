use Rattle.std.proofs.Common.{refl, sym, ◌∙◌, arith}
use Rattle.sh_printer.specs.Pieces.{word_text, word_weight}
use Rattle.sh_printer.proofs.commands.simple_words.Goals as goal

pub returns-then-words_last-clause-text : goal.returns-then-words_last-clause-text
returns-then-words_last-clause-text c = λ full. rw (sym c.words_last.ensures ∙ c.if-words_last.true) refl

pub returns-clause-text : goal.returns-clause-text
unfolding word_text word_weight
returns-clause-text c = λ full. rw (sym c.words_last.ensures ∙ c.if-words_last.false, c.has_assigns.ensures) refl

pub returns-clause-weight : goal.returns-clause-weight
unfolding word_text word_weight
returns-clause-weight c = omega arith
