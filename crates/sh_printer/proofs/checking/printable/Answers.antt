use Rattle.sh_printer.specs.Checks.{command_holds}
use Rattle.sh_syntax.proofs.Views.{script_is}
use Rattle.sh_printer.proofs.checking.printable.Goals as goal

pub returns : goal.returns
unfolding command_holds
returns c = rw (script_is c.args.script.now) (rw c.as_slice.ensures at c.holds.ensures)
