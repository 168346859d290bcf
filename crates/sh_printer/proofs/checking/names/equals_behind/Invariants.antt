use Rattle.std.proofs.Common.{◌≡◌, length}
use Rattle.sh_printing.specs.Spellable.{equals_behind}
use Rattle.sh_printer.proofs.checking.names.equals_behind.Given as goal

abbrev pub invariant-name : goal.invariant-name
invariant-name l = equals_behind l.rest ≡ equals_behind l.text

abbrev pub decreases-name : goal.decreases-name
decreases-name l = length l.rest
