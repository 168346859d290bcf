use Rattle.std.proofs.Common.{refl}
use Rattle.sh_printer.specs.Pieces.{command_piece_text, command_piece_weight, word_text, word_weight}
use Rattle.sh_printer.proofs.commands.between.Goals as goal

pub returns-clause-text : goal.returns-clause-text
unfolding command_piece_text command_piece_weight word_text word_weight
returns-clause-text c = λ full. refl

pub returns-clause-weight : goal.returns-clause-weight
unfolding command_piece_text command_piece_weight word_text word_weight
returns-clause-weight c = refl
