use Rattle.std.proofs.Common.{◌≡◌, [], refl, arith}
use Rattle.sh_printer.specs.Pieces.{word_text, word_weight}
use Rattle.sh_printer.proofs.Firsts.{none, first}
use Rattle.sh_printer.proofs.Firsts.{assigns_first, assigns_weigh}
use Rattle.sh_printer.proofs.words.assigns_apart.Goals as goal

pub returns-in-empty : goal.returns-in-empty
unfolding word_text word_weight
returns-in-empty c =
    let e : c.args.assigns.now ≡ [] = none c.args.assigns.now (omega arith) in
    record { whole = λ full. rw e refl; first_less = omega arith; second_less = omega arith; rest_less = omega arith }

pub returns-in-len1-up : goal.returns-in-len1-up
unfolding word_text word_weight
returns-in-len1-up c =
    let e = first c.args.assigns.now c.first-item.result c.in-len1-up.len_at_least c.first-item.is in
    let k = assigns_weigh c.args.assigns.now c.first-item.result e in
    record {
      whole = λ full. rw (c.lead.ensures, c.split_at.ensures.back) (assigns_first full c.args.behind c.args.assigns.now c.first-item.result e);
      first_less = omega (arith, k);
      second_less = omega (arith, k);
      rest_less = rw c.split_at.ensures.back (omega (arith, k));
    }
