use Rattle.std.proofs.Common.{arith}
use Rattle.std.proofs.lemmas.List.{append-nil}
use Rattle.sh_printer.specs.Pieces.{word_text, word_weight}
use Rattle.sh_printer.proofs.redirects.joint_apart.Goals as goal

pub returns : goal.returns
unfolding word_text word_weight
returns c =
    record {
      whole = λ full. rw (c.gap.ensures.text full) (simp append-nil);
      first_less = omega arith;
      second_less = omega arith;
      rest_less = omega (arith, c.gap.ensures.weight);
    }
