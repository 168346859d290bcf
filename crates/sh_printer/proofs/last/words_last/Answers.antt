use Rattle.std.specs.Prelude.{map}
use Rattle.sh_syntax.specs.View.{view_word, words_of}
use Rattle.sh_printer.proofs.LastWords.{assigned_first}
use Rattle.sh_printer.proofs.last.words_last.Goals as goal

pub returns-in-len1-up : goal.returns-in-len1-up
returns-in-len1-up c = assigned_first c.args.assigns.now (words_of (map view_word c.args.words.now)) c.in-len1-up.len_at_least
