use Rattle.std.proofs.Common.{refl, arith}
use Rattle.sh_printer.specs.Pieces.{command_piece_text, command_piece_weight, word_text, word_weight}
use Rattle.sh_syntax.proofs.Views.{function_is}
use Rattle.sh_printer.proofs.commands.function_apart.Goals as goal

pub returns : goal.returns
unfolding command_piece_text command_piece_weight word_text word_weight
returns c =
    record {
      whole = λ full. rw (c.bytes.ensures, c.get.ensures, function_is c.args.function.now) refl;
      first_less = omega arith;
      second_less = omega arith;
      rest_less = rw (c.get.ensures, function_is c.args.function.now) (omega arith);
    }
