use Rattle.std.proofs.Common.{◌≡◌, [], refl, arith}
use Rattle.sh_printer.specs.Pieces.{word_text, word_weight}
use Rattle.sh_printer.proofs.Firsts.{none, first}
use Rattle.sh_printer.proofs.Firsts.{words_first, words_weigh}
use Rattle.sh_printer.proofs.words.words_apart.Goals as goal

pub returns-in-empty : goal.returns-in-empty
unfolding word_text word_weight
returns-in-empty c =
    let e : c.args.words.now ≡ [] = none c.args.words.now (omega arith) in
    record { whole = λ full. rw e refl; first_less = omega arith; second_less = omega arith; rest_less = omega arith }

pub returns-in-len1-up : goal.returns-in-len1-up
unfolding word_text word_weight
returns-in-len1-up c =
    let e = first c.args.words.now c.first-item.result c.in-len1-up.len_at_least c.first-item.is in
    let k = words_weigh c.args.words.now c.first-item.result e in
    record {
      whole = λ full. rw (c.lead.ensures, c.split_at.ensures.back) (words_first full c.args.behind c.args.words.now c.first-item.result e);
      first_less = omega (arith, k);
      second_less = omega (arith, k);
      rest_less = rw c.split_at.ensures.back (omega (arith, k));
    }
