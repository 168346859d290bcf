use Rattle.std.proofs.Common.{subst, sym}
use Rattle.sh_grammar.specs.Shape as shape
use Rattle.sh_meaning.specs.Simple.{Setting}
use Rattle.sh_meaning.specs.Commands as commands
use Rattle.sh_frames.specs.Payloads.{to_word}
use Rattle.sh_interp.proofs.ValueViews.{value_view}
use Rattle.sh_interp.specs.Answers.{Turns}
use Rattle.sh_interp.proofs.assigns.value.Goals as goal

pub returns : goal.returns
returns c =
    subst (λ (v : shape.Value). (z : Setting) → Turns z (λ call. commands.value_run z call v c.args.ran) to_word c.args.frames.now c.optional_word.new.frames c.args.shell.now c.args.shell.now c.optional_word.result)
    (sym (value_view _ c.args.value.now)) c.optional_word.ensures
