use Rattle.std.proofs.Common.{refl}
use Rattle.sh_syntax.proofs.Views.{word_is}
use Rattle.sh_printer.proofs.opening.owed_behind_word.Goals as goal

pub returns : goal.returns
returns c = rw (c.still_owed.ensures, c.parts_open-opens.ensures, c.as_slice-parts.ensures, word_is c.args.word.now) refl
