use Rattle.std.proofs.Common.{◌≡◌, [], refl, arith}
use Rattle.sh_syntax.proofs.Views.{word_is}
use Rattle.sh_printer.specs.Codes.{view_end}
use Rattle.sh_printer.specs.Pieces.{word_text, word_weight}
use Rattle.sh_printing.specs.Printing.{parts_open}
use Rattle.sh_syntax.specs.View.{view_word}
use Rattle.sh_printer.proofs.Comings.{coming}
use Rattle.sh_printer.proofs.Firsts.{none, first, words_weigh, still_less}
use Rattle.sh_printer.proofs.RedirectTexts.{last_first}
use Rattle.sh_printer.proofs.redirects.last_apart.Goals as goal

pub returns-in-empty : goal.returns-in-empty
unfolding word_text word_weight
returns-in-empty c =
    let e : c.args.tail.words.now ≡ [] = none c.args.tail.words.now (omega arith) in
    coming _ _ _ _ _ (λ full. rw e refl) (rw e (omega arith)) c.end_apart.ensures

pub returns-in-len1-up : goal.returns-in-len1-up
unfolding word_text word_weight
returns-in-len1-up c =
    let w = c.first-item.result in
    let e = first c.args.tail.words.now w c.in-len1-up.len_at_least c.first-item.is in
    let k = words_weigh c.args.tail.words.now w e in
    let l = still_less (parts_open (view_word w)) c.args.owed.now in
    record {
      whole = λ full. rw (c.as_slice-parts.ensures, ← (word_is w), c.owed_behind_word-later.ensures, c.split_at.ensures.back) (last_first full (view_end c.args.tail.end) c.args.owed.now c.args.tail.words.now w e);
      first_less = omega (arith, k);
      second_less = rw (c.as_slice-parts.ensures, ← (word_is w)) (omega (arith, k));
      rest_less = rw (c.owed_behind_word-later.ensures, c.split_at.ensures.back) (omega (arith, k, l));
    }
