use Rattle.std.proofs.Common.{arith, append_assoc}
use Rattle.sh_printer.specs.Pieces.{word_text, word_weight}
use Rattle.sh_printer.specs.Pieces.{command_piece_text, command_piece_weight}
use Rattle.sh_printer.proofs.words.subst_apart.Goals as goal

pub returns : goal.returns
unfolding word_text word_weight command_piece_text command_piece_weight
returns c =
    record {
      whole = λ full. rw (c.gap.ensures.text full) (simp append_assoc);
      first_less = omega arith;
      second_less = omega (arith, c.gap.ensures.weight);
      rest_less = omega arith;
    }
