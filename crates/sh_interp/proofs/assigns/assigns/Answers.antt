use Rattle.std.specs.Prelude.{map}
use Rattle.sh_meaning.specs.Simple.{Setting}
use Rattle.sh_meaning.specs.Commands as commands
use Rattle.sh_interp.specs.Answers.{Turns}
use Rattle.sh_interp.proofs.Firsts.{onto_first}
use Rattle.sh_syntax.specs.View.{view_assign, assigns_of}
use Rattle.sh_frames.specs.Payloads.{to_truth}
use Rattle.sh_interp.proofs.assigns.assigns.Goals as goal

pub returns-in-len1-up : goal.returns-in-len1-up
returns-in-len1-up c =
    onto_first (λ as'. (z : Setting) → Turns z (λ call. commands.assigns_run z call (assigns_of (map view_assign as')) c.args.ran) to_truth c.args.frames.now c.next_assign.new.frames c.args.shell.now c.args.shell.now c.next_assign.result)
    c.args.assigns.now c.first-item.result c.in-len1-up.len_at_least c.first-item.is c.next_assign.ensures
