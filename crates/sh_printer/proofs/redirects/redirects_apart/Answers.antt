use Rattle.std.proofs.Common.{refl, arith}
use Rattle.std.proofs.lemmas.List.{take_all, drop_all}
use Rattle.sh_printer.specs.Pieces.{tail_text, word_text, word_weight}
use Rattle.sh_printer.proofs.RedirectTexts.{redirects_next, redirect_weighs, front_less}
use Rattle.sh_printer.proofs.redirects.redirects_apart.Goals as goal

pub returns-then-done-all : goal.returns-then-done-all
unfolding word_text word_weight
returns-then-done-all c = record {
  whole = λ full. rw (take_all c.args.done c.args.all.now (omega arith), drop_all c.args.done c.args.all.now (omega arith)) refl;
  first_less = omega arith;
  second_less = omega arith;
  rest_less = omega arith;
}

pub returns : goal.returns
unfolding word_text word_weight
returns c =
    let k = redirect_weighs c.args.all.now c.args.done c.index-all-done.result c.if-done-all.false c.index-all-done.is in
    let l = front_less c.args.all.now c.args.done in
    record {
      whole = λ full. rw (c.lead.ensures, c.split_at.ensures.front, c.later_redirects.ensures.text full) (redirects_next full c.args.behind (tail_text full c.args.tail) c.args.all.now c.args.done c.index-all-done.result c.if-done-all.false c.index-all-done.is);
      first_less = omega (arith, k);
      second_less = rw c.split_at.ensures.front (omega (arith, k, l));
      rest_less = omega (arith, c.later_redirects.ensures.weight);
    }
