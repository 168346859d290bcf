use Rattle.std.proofs.Common.{ℕ, arith}
use Rattle.sh_printer.specs.Checks.{command_check_weight, command_holds, word_check_weight, word_holds}
use Rattle.std.specs.Prelude.{option_map}
use Rattle.sh_printer.proofs.WordChecks.{under_with2}
use Rattle.sh_printer.specs.Pieces.{branch_views}
use Rattle.sh_printing.specs.Printable.{branches_fit, has_branch, otherwise_fits}
use Rattle.sh_syntax.specs.View.{view, branches_of, otherwise_of}
use Rattle.sh_printer.proofs.checking.commands.branching_apart.Goals as goal

pub returns : goal.returns
unfolding word_holds word_check_weight command_holds command_check_weight
returns c =
    let bs = branches_of (branch_views c.args.branches.now) in
    let o = otherwise_of (option_map view c.args.otherwise.now) in
    record { whole = rw (c.has_room_for.ensures, c.has_branches.ensures, c.else_check.ensures.holds, c.deeper-inside.ensures.body) (under_with2 c.args.nesting.depth c.deeper-inside.result.depth (has_branch bs) (λ (d : ℕ). branches_fit c.args.nesting.in_body d bs) (λ (d : ℕ). otherwise_fits c.args.nesting.in_body d o) c.deeper-inside.ensures.depth); first_less = omega arith; second_less = omega arith; rest_less = omega (arith, c.else_check.ensures.weight) }
