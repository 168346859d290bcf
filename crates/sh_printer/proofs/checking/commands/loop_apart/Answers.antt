use Rattle.std.proofs.Common.{ℕ, suc, ◌∙◌, arith}
use Rattle.sh_printer.specs.Checks.{command_check_weight, command_holds, word_check_weight, word_holds}
use Rattle.std.specs.Prelude.{nat_lt}
use Rattle.sh_grammar.specs.Steps.{limit}
use Rattle.sh_printer.proofs.WordChecks.{under2}
use Rattle.sh_printer.proofs.CommandChecks.{loop_lists}
use Rattle.sh_printer.specs.Checks.{some_fit}
use Rattle.sh_printing.specs.Printable.{has_chain, list_fits}
use Rattle.sh_syntax.specs.View.{view}
use Rattle.sh_printer.proofs.checking.commands.loop_apart.Goals as goal

pub returns : goal.returns
unfolding word_holds word_check_weight command_holds command_check_weight
returns c = λ until.
    let t = view c.args.test.now in
    let b = view c.args.body.now in
    record { whole = rw (c.has_room.ensures, c.deeper-inside.ensures.body) (under2 c.args.nesting.depth c.deeper-inside.result.depth (λ (d : ℕ). some_fit c.args.nesting.in_body d t) (λ (d : ℕ). some_fit c.args.nesting.in_body d b) c.deeper-inside.ensures.depth ∙ loop_lists (nat_lt c.args.nesting.depth limit) (has_chain t) (list_fits c.args.nesting.in_body (suc c.args.nesting.depth) t) (has_chain b) (list_fits c.args.nesting.in_body (suc c.args.nesting.depth) b)); first_less = omega arith; second_less = omega arith; rest_less = omega arith }
