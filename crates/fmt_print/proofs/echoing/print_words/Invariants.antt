use Rattle.fmt_print.specs.Echoing.{end_of}
use Rattle.fmt_print.proofs.Words.{Echoes}
use Rattle.fmt_print.proofs.echoing.print_words.Given as goal

abbrev pub invariant-loop-k : goal.invariant-loop-k
invariant-loop-k l = Echoes l.options.escapes (end_of l.options) l.words l.from l.k l.text
