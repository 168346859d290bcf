use Rattle.std.proofs.Common.{◌≡◌, false, sym, ◌∙◌}
use Rattle.std.specs.Prelude.{map}
use Rattle.sh_syntax.specs.View.{view_assign, view_value, assigns_of}
use Rattle.sh_syntax.proofs.Views.{assign_is}
use Rattle.sh_meaning.specs.Lists.{is_entangled}
use Rattle.sh_meaning.specs.Simple.{saved_names}
use Rattle.sh_frames.proofs.CommandLaws.{prefix_goes}
use Rattle.sh_interp.specs.Views.{saved_of, stack_of, state_of}
use Rattle.sh_interp.proofs.assigns.next_prefix.Goals as goal

pub returns : goal.returns
returns c = λ z.
    let free : is_entangled (saved_names (saved_of c.args.before)) (view_value c.args.first.now.value) ≡ false =
    sym (rw (c.as_slice-2.ensures, c.in_ok-names.ensures, c.as_slice.ensures) at c.in_ok-is_entangled.ensures) ∙ c.if-branch.false in
    rw (
      assign_is c.args.first.now,
      free,
      prefix_goes z c.args.shell.now.levels (stack_of c.args.frames.now) c.args.shell.now.turns (state_of c.args.shell.now) c.args.first.now.name.text (view_value c.args.first.now.value) (assigns_of (map view_assign c.args.rest.now)) (saved_of c.args.before),
      ← c.in_ok-push.ensures,
      ← c.bytes-name.ensures,
      ← c.in_ok-push-2.ensures,
    )
    (c.value.ensures z)
