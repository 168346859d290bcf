use Rattle.std.proofs.Common.{drop}
use Rattle.fmt_print.proofs.Passes.{Passes}
use Rattle.fmt_print.proofs.printing.print_pass.Given as goal

abbrev pub invariant-loop-piece : goal.invariant-loop-piece
invariant-loop-piece l = Passes l.arguments l.initial.text l.from l.pieces l.text l.used (drop l.piece-index l.pieces)
