use Rattle.std.proofs.Common.{ℕ, suc, ◌∙◌, arith}
use Rattle.sh_printer.specs.Checks.{command_check_weight, command_holds, word_check_weight, word_holds}
use Rattle.std.specs.Prelude.{nat_lt, map, option_map}
use Rattle.sh_grammar.specs.Steps.{limit}
use Rattle.sh_printer.proofs.WordChecks.{under_with2}
use Rattle.sh_printer.proofs.CommandChecks.{walk_lists}
use Rattle.span_text.specs.Names.{is_name}
use Rattle.sh_printer.specs.Checks.{some_fit}
use Rattle.sh_printing.specs.Printable.{for_words_fit, has_chain, list_fits}
use Rattle.sh_syntax.specs.View.{view, view_word, for_words_of}
use Rattle.sh_printer.proofs.checking.commands.for_apart.Goals as goal

pub returns : goal.returns
unfolding word_holds word_check_weight command_holds command_check_weight
returns c =
    let ws = for_words_of (option_map (map view_word) c.args.words.now) in
    let b = view c.args.body.now in
    record { whole = rw (c.has_room_for.ensures, c.is_name.ensures, c.for_words_check.ensures.holds, c.deeper-inside.ensures.body) (under_with2 c.args.nesting.depth c.deeper-inside.result.depth (is_name c.args.name.now) (λ (d : ℕ). for_words_fit c.args.nesting.in_body d ws) (λ (d : ℕ). some_fit c.args.nesting.in_body d b) c.deeper-inside.ensures.depth ∙ walk_lists (nat_lt c.args.nesting.depth limit) (is_name c.args.name.now) (for_words_fit c.args.nesting.in_body (suc c.args.nesting.depth) ws) (has_chain b) (list_fits c.args.nesting.in_body (suc c.args.nesting.depth) b)); first_less = omega arith; second_less = omega (arith, c.for_words_check.ensures.weight); rest_less = omega arith }
