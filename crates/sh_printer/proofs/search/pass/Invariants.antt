use Rattle.std.proofs.Common.{take}
use Rattle.sh_printer.specs.Search.{Passed}
use Rattle.sh_printer.proofs.search.pass.Given as goal

abbrev pub invariant-loop-byte : goal.invariant-loop-byte
invariant-loop-byte l = Passed l.initial.search l.search (take l.byte-index l.bytes)
