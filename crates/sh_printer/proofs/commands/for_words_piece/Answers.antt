use Rattle.std.proofs.Common.{refl, arith}
use Rattle.sh_printer.specs.Pieces.{command_piece_text, command_piece_weight, word_text, word_weight}
use Rattle.sh_printer.proofs.commands.for_words_piece.Goals as goal

pub returns-in-None-clause-text : goal.returns-in-None-clause-text
returns-in-None-clause-text c = λ full. rw c.in-None.is refl

pub returns-in-Some-clause-text : goal.returns-in-Some-clause-text
unfolding command_piece_text command_piece_weight word_text word_weight
returns-in-Some-clause-text c = λ full. rw (c.in-Some.is, c.as_slice.ensures) refl

pub returns-in-Some-clause-weight : goal.returns-in-Some-clause-weight
unfolding command_piece_text command_piece_weight word_text word_weight
returns-in-Some-clause-weight c = rw (c.in-Some.is, c.as_slice.ensures) (omega arith)
