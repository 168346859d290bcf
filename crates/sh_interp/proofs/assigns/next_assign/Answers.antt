use Rattle.std.specs.Prelude.{map}
use Rattle.sh_syntax.specs.View.{view_assign, view_value, assigns_of}
use Rattle.sh_syntax.proofs.Views.{assign_is}
use Rattle.sh_frames.proofs.CommandLaws.{assigns_go}
use Rattle.sh_interp.specs.Views.{stack_of, state_of}
use Rattle.sh_interp.proofs.assigns.next_assign.Goals as goal

pub returns : goal.returns
returns c = λ z.
    rw (
      assign_is c.args.first.now,
      assigns_go z c.args.shell.now.levels (stack_of c.args.frames.now) c.args.shell.now.turns (state_of c.args.shell.now) c.args.first.now.name.text (view_value c.args.first.now.value) (assigns_of (map view_assign c.args.rest.now)) c.args.ran,
      ← c.in_ok-push.ensures,
      ← c.bytes.ensures,
      ← c.in_ok-push-2.ensures,
    )
    (c.value.ensures z)
