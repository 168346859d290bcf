use Rattle.std.proofs.Common.{ℕ, arith}
use Rattle.sh_printer.specs.Checks.{command_check_weight, command_holds, word_check_weight, word_holds}
use Rattle.sh_printer.proofs.WordChecks.{under_with}
use Rattle.sh_printer.specs.Codes.{view_context}
use Rattle.sh_printing.specs.Printable.{parts_fit}
use Rattle.sh_syntax.proofs.Views.{word_is}
use Rattle.sh_syntax.specs.View.{view_word}
use Rattle.sh_printer.proofs.checking.words.closed_apart.Goals as goal

pub returns : goal.returns
unfolding word_holds word_check_weight command_holds command_check_weight
returns c = record { whole = rw (c.has_room_for.ensures, c.as_slice.ensures, ← (word_is c.args.word.now), c.deeper.ensures.body) (under_with c.args.nesting.depth c.deeper.result.depth c.args.fits (λ (d : ℕ). parts_fit c.args.nesting.in_body d (view_context c.args.context) (view_word c.args.word.now)) c.deeper.ensures.depth); first_less = omega arith; second_less = omega arith; rest_less = rw (c.as_slice.ensures, ← (word_is c.args.word.now)) (omega arith) }
