use Rattle.std.proofs.Common.{◌≡◌, length}
use Rattle.sh_grammar.specs.Bytes as bytes_of
use Rattle.sh_printer.proofs.checking.bytes.clear.Given as goal

abbrev pub invariant-joins : goal.invariant-joins
invariant-joins l = bytes_of.clear l.rest ≡ bytes_of.clear l.bytes

abbrev pub decreases-joins : goal.decreases-joins
decreases-joins l = length l.rest
