use Rattle.std.proofs.Common.{◌-◌}
use Rattle.fmt_print.specs.Printing.{prints_all}
use Rattle.fmt_print.proofs.Passes.{Repeats}
use Rattle.fmt_print.proofs.printing.print_passes.Given as goal

abbrev pub invariant-loop-done : goal.invariant-loop-done
invariant-loop-done l = Repeats l.arguments l.pieces (prints_all l.pieces l.arguments) l.text l.used (l.count - l.done)
