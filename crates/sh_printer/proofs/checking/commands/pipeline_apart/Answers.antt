use Rattle.std.proofs.Common.{refl, arith}
use Rattle.sh_printer.specs.Checks.{command_check_weight, command_holds, word_check_weight, word_holds}
use Rattle.sh_syntax.proofs.Views.{pipeline_is}
use Rattle.sh_printer.proofs.checking.commands.pipeline_apart.Goals as goal

pub returns : goal.returns
unfolding word_holds word_check_weight command_holds command_check_weight
returns c = record { whole = rw (c.has_stages.ensures, c.as_slice-stages.ensures, pipeline_is c.args.pipeline.now) refl; first_less = omega arith; second_less = omega arith; rest_less = rw (c.as_slice-stages.ensures, pipeline_is c.args.pipeline.now) (omega arith) }
