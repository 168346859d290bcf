use Rattle.std.proofs.Common.{◌≡◌, [], refl, arith}
use Rattle.sh_printer.specs.Codes.{view_context}
use Rattle.sh_printer.specs.Pieces.{word_text, word_weight}
use Rattle.sh_syntax.specs.View.{view_part}
use Rattle.sh_printer.proofs.Firsts.{none, first}
use Rattle.sh_printing.specs.Printing.{part_opens}
use Rattle.sh_printer.proofs.Firsts.{parts_first, parts_weigh, still_less}
use Rattle.sh_printer.proofs.words.parts_apart.Goals as goal

pub returns-in-empty : goal.returns-in-empty
unfolding word_text word_weight
returns-in-empty c =
    let e : c.args.parts.now ≡ [] = none c.args.parts.now (omega arith) in
    record { whole = λ full. rw e refl; first_less = omega arith; second_less = omega arith; rest_less = omega arith }

pub returns-in-len1-up : goal.returns-in-len1-up
unfolding word_text word_weight
returns-in-len1-up c =
    let e = first c.args.parts.now c.first-item.result c.in-len1-up.len_at_least c.first-item.is in
    let k = parts_weigh c.args.parts.now c.first-item.result e in
    let l = still_less (part_opens (view_part c.first-item.result)) c.args.owed.now in
    record {
      whole = λ full. rw (c.is_continued.ensures, c.owed_behind-later.ensures, c.split_at.ensures.back) (parts_first full (view_context c.args.context) c.args.owed.now c.args.parts.now c.first-item.result e);
      first_less = omega (arith, k);
      second_less = omega (arith, k);
      rest_less = rw (c.owed_behind-later.ensures, c.split_at.ensures.back) (omega (arith, k, l));
    }
