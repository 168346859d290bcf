use Rattle.std.proofs.Common.{ℕ, arith}
use Rattle.sh_printer.specs.Checks.{command_check_weight, command_holds, word_check_weight, word_holds}
use Rattle.sh_printer.proofs.WordChecks.{under}
use Rattle.sh_printing.specs.Printable.{list_fits}
use Rattle.sh_syntax.proofs.Views.{script_is}
use Rattle.sh_syntax.specs.View.{view}
use Rattle.sh_printer.proofs.checking.words.subst_apart.Goals as goal

pub returns : goal.returns
unfolding word_holds word_check_weight command_holds command_check_weight
returns c = record { whole = rw (c.has_room.ensures, c.as_slice.ensures, ← (script_is c.args.script.now), c.deeper.ensures.body) (under c.args.nesting.depth c.deeper.result.depth (λ (d : ℕ). list_fits c.args.nesting.in_body d (view c.args.script.now)) c.deeper.ensures.depth); first_less = omega arith; second_less = omega arith; rest_less = rw (c.as_slice.ensures, ← (script_is c.args.script.now)) (omega arith) }
