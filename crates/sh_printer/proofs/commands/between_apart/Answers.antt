use Rattle.std.proofs.Common.{refl, arith}
use Rattle.sh_printer.specs.Pieces.{command_piece_text, command_piece_weight, word_text, word_weight}
use Rattle.sh_printer.proofs.CommandTexts.{list_chains}
use Rattle.sh_syntax.proofs.Views.{script_is}
use Rattle.sh_printer.proofs.commands.between_apart.Goals as goal

pub returns : goal.returns
unfolding command_piece_text command_piece_weight word_text word_weight
returns c =
    record {
      whole = λ full. rw (c.as_slice-items.ensures, list_chains, script_is c.args.script.now) refl;
      first_less = omega arith;
      second_less = rw (c.as_slice-items.ensures, script_is c.args.script.now) (omega arith);
      rest_less = omega arith;
    }
