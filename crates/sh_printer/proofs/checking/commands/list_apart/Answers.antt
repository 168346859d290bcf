use Rattle.std.proofs.Common.{refl, arith}
use Rattle.sh_printer.specs.Checks.{command_check_weight, command_holds, word_check_weight, word_holds}
use Rattle.sh_syntax.proofs.Views.{script_is}
use Rattle.sh_printer.proofs.checking.commands.list_apart.Goals as goal

pub returns : goal.returns
unfolding word_holds word_check_weight command_holds command_check_weight
returns c = record { whole = rw (c.has_chains.ensures, c.as_slice-items.ensures, script_is c.args.script.now) refl; first_less = omega arith; second_less = omega arith; rest_less = rw (c.as_slice-items.ensures, script_is c.args.script.now) (omega arith) }
