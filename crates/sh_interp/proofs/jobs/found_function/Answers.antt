use Rattle.std.proofs.Common.{◌≡◌, ◌-◌, ◌∙◌, drop, sym, refl, Bor}
use Rattle.sh_syntax.specs.declared.tree.Command.{Command}
use Rattle.sh_syntax.specs.View.{view_command}
use Rattle.shell_world.specs.Runs.{with_own}
use Rattle.sh_meaning.specs.Own.{with_arguments}
use Rattle.sh_meaning.specs.Commands.{command_run, in_body}
use Rattle.sh_frames.specs.Payloads.{to_ended}
use Rattle.sh_frames.proofs.ShellLaws.{call_goes}
use Rattle.sh_interp.specs.Views.{setting_of, stack_of, state_of, whole_of}
use Rattle.sh_interp.proofs.Heads.{led_more, suc_of}
use Rattle.sh_interp.proofs.Turning.{moved}
use Rattle.sh_interp.proofs.Valued.{looked, inserted}
use Rattle.sh_interp.proofs.jobs.found_function.Goals as goal

pub returns-in-None : goal.returns-in-None
returns-in-None c = rw (looked (λ (r : Bor Command). view_command r.now) c.args.name.now c.args.shell.now.own.functions, ← c.get.ensures, c.in-None.is) refl

pub returns-in-Some : goal.returns-in-Some
returns-in-Some c = rw (looked (λ (r : Bor Command). view_command r.now) c.args.name.now c.args.shell.now.own.functions, ← c.get.ensures, c.in-Some.is) refl
