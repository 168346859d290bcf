use Rattle.std.proofs.Common.{refl, arith}
use Rattle.sh_printer.specs.Checks.{command_check_weight, command_holds, word_check_weight, word_holds}
use Rattle.sh_syntax.proofs.Views.{command_is}
use Rattle.sh_printer.proofs.checking.commands.whole_command_apart.Goals as goal

pub returns : goal.returns
unfolding word_holds word_check_weight command_holds command_check_weight
returns c = record { whole = rw (c.has_redirects.ensures, c.as_slice-redirects.ensures, command_is c.args.command.now) refl; first_less = omega arith; second_less = rw (command_is c.args.command.now) (omega arith); rest_less = rw (c.as_slice-redirects.ensures, command_is c.args.command.now) (omega arith) }
