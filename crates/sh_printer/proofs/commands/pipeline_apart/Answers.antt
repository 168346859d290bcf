use Rattle.std.proofs.Common.{arith}
use Rattle.std.specs.Prelude.{map}
use Rattle.sh_printer.specs.Codes.{view_end}
use Rattle.sh_printer.specs.Pieces.{command_piece_text, command_piece_weight, word_text, word_weight}
use Rattle.sh_syntax.specs.declared.tree.Pipeline.{out-Pipeline}
use Rattle.sh_syntax.specs.View.{view_command, stages_of}
use Rattle.sh_syntax.proofs.Views.{pipeline_is}
use Rattle.sh_printer.proofs.CommandTexts.{pipeline_marked}
use Rattle.sh_printer.proofs.commands.pipeline_apart.Goals as goal

pub returns : goal.returns
unfolding command_piece_text command_piece_weight word_text word_weight
returns c =
    record {
      whole = λ full. rw (c.negation.ensures, c.as_slice-stages.ensures, pipeline_is c.args.pipeline.now) (pipeline_marked full (out-Pipeline c.args.pipeline.now).negated (view_end c.args.end) (stages_of (map view_command (out-Pipeline c.args.pipeline.now).stages)));
      first_less = omega arith;
      second_less = omega arith;
      rest_less = rw (c.as_slice-stages.ensures, pipeline_is c.args.pipeline.now) (omega arith);
    }
