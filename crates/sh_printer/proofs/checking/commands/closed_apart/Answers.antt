use Rattle.std.proofs.Common.{ℕ, suc, sym, ◌∙◌, arith}
use Rattle.sh_printer.specs.Checks.{command_check_weight, command_holds, word_check_weight, word_holds}
use Rattle.std.specs.Prelude.{nat_lt}
use Rattle.sh_grammar.specs.Steps.{limit}
use Rattle.sh_printer.proofs.WordChecks.{under}
use Rattle.std.proofs.Math.Bool.{and_assoc}
use Rattle.sh_printer.specs.Checks.{some_fit}
use Rattle.sh_printing.specs.Printable.{has_chain, list_fits}
use Rattle.sh_syntax.specs.View.{view}
use Rattle.sh_printer.proofs.checking.commands.closed_apart.Goals as goal

pub returns : goal.returns
unfolding word_holds word_check_weight command_holds command_check_weight
returns c =
    let s = view c.args.script.now in
    record { whole = rw (c.has_room.ensures, c.deeper.ensures.body) (under c.args.nesting.depth c.deeper.result.depth (λ (d : ℕ). some_fit c.args.nesting.in_body d s) c.deeper.ensures.depth ∙ sym (and_assoc (nat_lt c.args.nesting.depth limit) (has_chain s) (list_fits c.args.nesting.in_body (suc c.args.nesting.depth) s))); first_less = omega arith; second_less = omega arith; rest_less = omega arith }
