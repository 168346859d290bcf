use Rattle.sh_printer.proofs.CommandTexts.{some_words}
use Rattle.sh_printer.proofs.commands.has_words.Goals as goal

pub returns-in-len1-up : goal.returns-in-len1-up
returns-in-len1-up c = some_words c.args.words.now c.in-len1-up.len_at_least
