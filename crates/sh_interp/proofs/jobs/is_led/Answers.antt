use Rattle.std.proofs.Common.{◌≡◌, ◌-◌, ◌∙◌, drop, sym, refl, Bor}
use Rattle.sh_syntax.specs.declared.tree.Command.{Command}
use Rattle.sh_syntax.specs.View.{view_command}
use Rattle.shell_world.specs.Runs.{with_own}
use Rattle.sh_meaning.specs.Own.{with_arguments}
use Rattle.sh_meaning.specs.Commands.{command_run, in_body}
use Rattle.sh_frames.specs.Payloads.{to_ended}
use Rattle.sh_frames.proofs.ShellLaws.{call_goes}
use Rattle.sh_interp.specs.Views.{setting_of, stack_of, state_of, whole_of}
use Rattle.sh_interp.proofs.Heads.{led_more, suc_of}
use Rattle.sh_interp.proofs.Turning.{moved}
use Rattle.sh_interp.proofs.Valued.{looked, inserted}
use Rattle.sh_interp.proofs.jobs.is_led.Goals as goal

pub returns-in-len1-up : goal.returns-in-len1-up
returns-in-len1-up c = sym (led_more c.args.assigns.now c.in-len1-up.len_at_least)
