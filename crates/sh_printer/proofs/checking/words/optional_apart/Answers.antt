use Rattle.std.proofs.Common.{true, refl, arith}
use Rattle.sh_printer.specs.Checks.{command_check_weight, command_holds, word_check_weight, word_holds}
use Rattle.sh_printer.proofs.WordChecks.{splitting}
use Rattle.sh_syntax.proofs.Views.{word_is}
use Rattle.sh_printer.proofs.checking.words.optional_apart.Goals as goal

pub returns-in-None : goal.returns-in-None
unfolding word_holds word_check_weight command_holds command_check_weight
returns-in-None c = splitting true _ 1 _ c.known.result (rw c.in-None.is refl) (omega arith) c.known.ensures

pub returns-in-Some : goal.returns-in-Some
unfolding word_holds word_check_weight command_holds command_check_weight
returns-in-Some c = rw c.in-Some.is (splitting _ _ _ _ c.whole_word_apart.result (rw (c.as_slice.ensures, ← (word_is c.in-Some.word)) refl) (rw (c.as_slice.ensures, ← (word_is c.in-Some.word)) (omega arith)) c.whole_word_apart.ensures)
