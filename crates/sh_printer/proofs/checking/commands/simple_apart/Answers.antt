use Rattle.std.proofs.Common.{arith}
use Rattle.sh_printer.specs.Checks.{command_check_weight, command_holds, word_check_weight, word_holds}
use Rattle.sh_printer.proofs.CommandChecks.{last_first}
use Rattle.std.specs.Prelude.{map, ◌||◌}
use Rattle.sh_printing.specs.Printable.{assigns_fit, name_fits, words_fit}
use Rattle.sh_printing.specs.Printing.{has_assign, has_word}
use Rattle.sh_syntax.specs.View.{view_assign, view_word, assigns_of, words_of}
use Rattle.sh_printer.proofs.checking.commands.simple_apart.Goals as goal

pub returns : goal.returns
unfolding word_holds word_check_weight command_holds command_check_weight
returns c =
    let as' = assigns_of (map view_assign c.args.assigns.now) in
    let ws = words_of (map view_word c.args.words.now) in
    record { whole = rw c.simple_fits.ensures (last_first (has_assign as' || has_word ws || c.args.redirected) (assigns_fit c.args.nesting.in_body c.args.nesting.depth as') (words_fit c.args.nesting.in_body c.args.nesting.depth ws) (name_fits (has_assign as' || c.args.redirected) ws)); first_less = omega arith; second_less = omega arith; rest_less = omega arith }
