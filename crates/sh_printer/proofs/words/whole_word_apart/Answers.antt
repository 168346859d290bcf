use Rattle.std.proofs.Common.{refl, arith}
use Rattle.sh_printer.specs.Pieces.{word_text, word_weight}
use Rattle.sh_syntax.proofs.Views.{word_is}
use Rattle.sh_printer.proofs.words.whole_word_apart.Goals as goal

pub returns : goal.returns
unfolding word_text word_weight
returns c =
    record {
      whole = λ full. rw (c.as_slice-parts.ensures, word_is c.args.word.now) refl;
      first_less = omega arith;
      second_less = omega arith;
      rest_less = rw (c.as_slice-parts.ensures, word_is c.args.word.now) (omega arith);
    }
