use Rattle.std.proofs.Common.{◌≡◌, drop}
use Rattle.fmt_print.specs.Constants.{number_from}
use Rattle.fmt_print.proofs.constants.number_of.Given as goal

abbrev pub invariant-loop-byte : goal.invariant-loop-byte
invariant-loop-byte l = number_from l.radix l.value (drop l.byte-index l.digits) ≡ number_from l.radix 0 l.digits
