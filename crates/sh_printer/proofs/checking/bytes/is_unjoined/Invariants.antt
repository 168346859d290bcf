use Rattle.std.proofs.Common.{◌≡◌, length, false}
use Rattle.sh_printing.specs.Spellable.{is_unjoined}
use Rattle.sh_printer.proofs.checking.bytes.is_unjoined.Given as goal

abbrev pub invariant-bytes : goal.invariant-bytes
invariant-bytes l = is_unjoined false l.rest ≡ is_unjoined false l.text

abbrev pub decreases-bytes : goal.decreases-bytes
decreases-bytes l = length l.rest
