use Rattle.std.proofs.Common.{ℕ, true, arith}
use Rattle.sh_printer.specs.Checks.{command_check_weight, command_holds, word_check_weight, word_holds}
use Rattle.std.specs.Prelude.{map}
use Rattle.sh_printer.proofs.WordChecks.{under2}
use Rattle.sh_syntax.proofs.Views.{word_is}
use Rattle.sh_printing.specs.Printable.{items_fit, word_fits}
use Rattle.sh_syntax.specs.View.{view_case_item, view_word, case_items_of}
use Rattle.sh_printer.proofs.checking.commands.case_apart.Goals as goal

pub returns : goal.returns
unfolding word_holds word_check_weight command_holds command_check_weight
returns c =
    let w = view_word c.args.subject.now in
    let is = case_items_of (map view_case_item c.args.items.now) in
    record { whole = rw (c.has_room.ensures, c.as_slice.ensures, ← (word_is c.args.subject.now), c.deeper-inside.ensures.body) (under2 c.args.nesting.depth c.deeper-inside.result.depth (λ (d : ℕ). word_fits c.args.nesting.in_body d true w) (λ (d : ℕ). items_fit c.args.nesting.in_body d is) c.deeper-inside.ensures.depth); first_less = omega arith; second_less = rw (c.as_slice.ensures, ← (word_is c.args.subject.now)) (omega arith); rest_less = omega arith }
