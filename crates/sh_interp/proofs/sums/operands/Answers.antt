use Rattle.std.specs.Prelude.{map}
use Rattle.sh_meaning.specs.Simple.{Setting}
use Rattle.sh_meaning.specs.Commands as commands
use Rattle.sh_interp.specs.Answers.{Turns}
use Rattle.sh_interp.proofs.Firsts.{onto_first}
use Rattle.sh_syntax.specs.View.{view_word, words_of}
use Rattle.sh_frames.specs.Payloads.{to_numbers}
use Rattle.sh_interp.specs.Views.{operands_of}
use Rattle.sh_interp.proofs.sums.operands.Goals as goal

pub returns-in-len1-up : goal.returns-in-len1-up
returns-in-len1-up c =
    onto_first (λ ws. (z : Setting) → Turns z (λ call. commands.operands_run z call c.args.signs (words_of (map view_word ws)) (operands_of c.args.before)) to_numbers c.args.frames.now c.next_operand.new.frames c.args.shell.now c.args.shell.now c.next_operand.result)
    c.args.words.now c.first-item.result c.in-len1-up.len_at_least c.first-item.is c.next_operand.ensures
