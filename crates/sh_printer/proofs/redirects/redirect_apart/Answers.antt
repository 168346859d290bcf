use Rattle.std.proofs.Common.{refl, arith}
use Rattle.sh_printer.specs.Pieces.{word_text, word_weight}
use Rattle.sh_syntax.proofs.Views.{redirect_is}
use Rattle.sh_printer.proofs.redirects.redirect_apart.Goals as goal

pub returns : goal.returns
unfolding word_text word_weight
returns c =
    record {
      whole = λ full. rw (c.operator.ensures, c.target.ensures.text full, redirect_is c.args.redirect.now) refl;
      first_less = omega arith;
      second_less = omega arith;
      rest_less = omega (arith, c.target.ensures.weight);
    }
