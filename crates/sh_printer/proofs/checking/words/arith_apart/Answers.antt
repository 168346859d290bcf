use Rattle.std.proofs.Common.{ℕ, arith}
use Rattle.sh_printer.specs.Checks.{command_check_weight, command_holds, word_check_weight, word_holds}
use Rattle.sh_printer.proofs.WordChecks.{under}
use Rattle.std.specs.Prelude.{map}
use Rattle.sh_printing.specs.Printable.{operand_checks}
use Rattle.sh_printing.specs.Spellable.{sum_fits}
use Rattle.sh_syntax.specs.declared.tree.Arith.{out-Arith}
use Rattle.sh_syntax.specs.View.{view_word, words_of}
use Rattle.sh_printer.proofs.checking.words.arith_apart.Goals as goal

pub returns : goal.returns
unfolding word_holds word_check_weight command_holds command_check_weight
returns c = record { whole = rw (c.has_room.ensures, c.as_slice-operands.ensures, c.deeper.ensures.body) (under c.args.nesting.depth c.deeper.result.depth (λ (d : ℕ). sum_fits (operand_checks c.args.nesting.in_body (words_of (map view_word (out-Arith c.args.arith.now).operands))) d (out-Arith c.args.arith.now).expr) c.deeper.ensures.depth); first_less = omega arith; second_less = omega arith; rest_less = rw c.as_slice-operands.ensures (omega arith) }
