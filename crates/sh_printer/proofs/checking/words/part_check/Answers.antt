use Rattle.std.proofs.Common.{refl}
use Rattle.sh_printer.specs.Checks.{command_check_weight, command_holds, word_check_weight, word_holds}
use Rattle.sh_printer.proofs.checking.words.part_check.Goals as goal

pub returns-clause-holds : goal.returns-clause-holds
unfolding word_holds word_check_weight command_holds command_check_weight
returns-clause-holds c = refl

pub returns-clause-weight : goal.returns-clause-weight
unfolding word_holds word_check_weight command_holds command_check_weight
returns-clause-weight c = refl
