use Rattle.std.proofs.Common.{refl, arith}
use Rattle.sh_printer.specs.Pieces.{word_text, word_weight}
use Rattle.sh_syntax.proofs.Views.{assign_is}
use Rattle.sh_printer.proofs.words.assign_apart.Goals as goal

pub returns : goal.returns
unfolding word_text word_weight
returns c =
    record {
      whole = λ full. rw (c.bytes.ensures, c.value_piece.ensures.text full, assign_is c.args.assign.now) refl;
      first_less = omega arith;
      second_less = omega arith;
      rest_less = rw (assign_is c.args.assign.now) (omega (arith, c.value_piece.ensures.weight));
    }
