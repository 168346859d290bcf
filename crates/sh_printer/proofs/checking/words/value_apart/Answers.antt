use Rattle.std.proofs.Common.{sym}
use Rattle.sh_printer.specs.Checks.{command_check_weight, command_holds, word_check_weight, word_holds}
use Rattle.std.proofs.Common.{◌+◌, subst}
use Rattle.sh_printer.specs.Checks.{Splits}
use Rattle.sh_grammar.specs.Shape as shape
use Rattle.sh_printer.specs.Weights.{value_weight}
use Rattle.sh_printing.specs.Printable.{value_fits}
use Rattle.sh_printer.proofs.ValueViews.{value_view}
use Rattle.sh_printer.proofs.checking.words.value_apart.Goals as goal

pub returns : goal.returns
unfolding word_holds word_check_weight command_holds command_check_weight
returns c = subst (λ (v : shape.Value). Splits (value_fits c.args.nesting.in_body c.args.nesting.depth v) (value_weight v + 2) c.optional_apart.result) (sym (value_view _ c.args.value.now)) c.optional_apart.ensures
