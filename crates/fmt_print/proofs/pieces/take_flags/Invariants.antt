use Rattle.std.proofs.Common.{◌≡◌, drop}
use Rattle.fmt_print.specs.Pieces.{flags_from, no_flags}
use Rattle.fmt_print.proofs.pieces.take_flags.Given as goal

abbrev pub invariant-loop-i : goal.invariant-loop-i
invariant-loop-i l = flags_from l.flags (drop l.i l.bytes) ≡ flags_from no_flags l.bytes
