use Rattle.std.proofs.Common.{◌≡◌, length}
use Rattle.sh_printing.specs.Spellable.{ends_with}
use Rattle.sh_printer.proofs.checking.bytes.ends_with.Given as goal

abbrev pub invariant-bytes : goal.invariant-bytes
invariant-bytes l = ends_with l.byte l.rest ≡ ends_with l.byte l.text

abbrev pub decreases-bytes : goal.decreases-bytes
decreases-bytes l = length l.rest
