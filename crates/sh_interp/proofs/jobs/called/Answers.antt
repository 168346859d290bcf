use Rattle.std.proofs.Common.{◌≡◌, ◌-◌, ◌∙◌, drop, sym, refl, Bor}
use Rattle.sh_syntax.specs.declared.tree.Command.{Command}
use Rattle.sh_syntax.specs.View.{view_command}
use Rattle.shell_world.specs.Runs.{with_own}
use Rattle.sh_meaning.specs.Own.{with_arguments}
use Rattle.sh_meaning.specs.Commands.{command_run, in_body}
use Rattle.sh_frames.specs.Payloads.{to_ended}
use Rattle.sh_frames.proofs.ShellLaws.{call_goes}
use Rattle.sh_interp.specs.Views.{setting_of, stack_of, state_of, whole_of}
use Rattle.sh_interp.proofs.Heads.{led_more, suc_of}
use Rattle.sh_interp.proofs.Turning.{moved}
use Rattle.sh_interp.proofs.Valued.{looked, inserted}
use Rattle.sh_interp.proofs.jobs.called.Goals as goal

pub returns : goal.returns
returns c = λ z.
    let e = suc_of c.args.shell.now.levels c.if-levels-eq0.false in
    rw (e, call_goes z (c.args.shell.now.levels - 1) (stack_of c.args.frames.now) c.args.shell.now.turns (state_of c.args.shell.now) (view_command c.args.body.now) (drop 1 c.args.argv), ← e)
    (rw (c.in_ok-push.ensures, c.in_ok-callers.ensures.callers) at
    (moved z (λ call. command_run z call in_body (view_command c.args.body.now)) to_ended c.push.new.self c.command.new.frames (record c.args.shell.now { levels = c.args.shell.now.levels - 1 }) c.enter.new.shell c.enter.new.shell c.command.result
    (with_own (state_of c.args.shell.now) (with_arguments (drop 1 c.args.argv) (whole_of c.args.shell.now.own))) c.in_ok-callers.ensures.state c.in_ok-callers.ensures.bounds c.in_ok-callers.ensures.table (c.command.ensures z)))
