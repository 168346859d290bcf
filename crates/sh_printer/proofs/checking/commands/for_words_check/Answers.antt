use Rattle.std.proofs.Common.{refl, arith}
use Rattle.sh_printer.specs.Checks.{command_check_weight, command_holds, word_check_weight, word_holds}
use Rattle.sh_printer.proofs.checking.commands.for_words_check.Goals as goal

pub returns-in-None-clause-holds : goal.returns-in-None-clause-holds
unfolding word_holds word_check_weight command_holds command_check_weight
returns-in-None-clause-holds c = rw c.in-None.is refl

pub returns-in-Some-clause-holds : goal.returns-in-Some-clause-holds
unfolding word_holds word_check_weight command_holds command_check_weight
returns-in-Some-clause-holds c = rw (c.in-Some.is, c.as_slice.ensures) refl

pub returns-in-Some-clause-weight : goal.returns-in-Some-clause-weight
unfolding word_holds word_check_weight command_holds command_check_weight
returns-in-Some-clause-weight c = rw (c.in-Some.is, c.as_slice.ensures) (omega arith)
