use Rattle.std.proofs.Common.{◌≡◌, ◌≤◌, drop}
use Rattle.fmt_print.specs.Pieces.{size_from}
use Rattle.fmt_print.proofs.pieces.take_size.Given as goal

abbrev pub invariant-loop-i : goal.invariant-loop-i
invariant-loop-i l = record { read : size_from l.value (drop l.i l.bytes) ≡ size_from 0 l.bytes; bound : l.value ≤ 9999 }
