use Rattle.sh_syntax.proofs.Views.{command_is}
use Rattle.sh_printer.proofs.checking.commands.has_compound.Goals as goal

pub returns : goal.returns
returns c = rw (command_is c.args.command.now) c.is_compound.ensures
