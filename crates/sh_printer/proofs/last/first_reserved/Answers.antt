use Rattle.sh_syntax.proofs.Views.{word_is}
use Rattle.sh_printer.proofs.Firsts.{first}
use Rattle.sh_printer.proofs.LastWords.{first_word}
use Rattle.sh_printer.proofs.last.first_reserved.Goals as goal

pub returns-in-len1-up : goal.returns-in-len1-up
returns-in-len1-up c =
    let e = first c.args.words.now c.first-item.result c.in-len1-up.len_at_least c.first-item.is in
    rw (first_word c.args.words.now c.first-item.result e, word_is c.first-item.result) (rw c.as_slice.ensures at c.is_reserved_word.ensures)
