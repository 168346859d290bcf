use Rattle.std.proofs.Common.{◌≡◌, ◌-◌, ◌∙◌, drop, sym, refl, Bor}
use Rattle.sh_syntax.specs.declared.tree.Command.{Command}
use Rattle.sh_syntax.specs.View.{view_command}
use Rattle.shell_world.specs.Runs.{with_own}
use Rattle.sh_meaning.specs.Own.{with_arguments}
use Rattle.sh_meaning.specs.Commands.{command_run, in_body}
use Rattle.sh_frames.specs.Payloads.{to_ended}
use Rattle.sh_frames.proofs.ShellLaws.{call_goes}
use Rattle.sh_interp.specs.Views.{setting_of, stack_of, state_of, whole_of}
use Rattle.sh_interp.proofs.Heads.{led_more, suc_of}
use Rattle.sh_interp.proofs.Turning.{moved}
use Rattle.sh_interp.proofs.Valued.{looked, inserted}
use Rattle.sh_interp.proofs.jobs.run.Goals as goal

pub returns-in-Assigning : goal.returns-in-Assigning
returns-in-Assigning c = rw c.in-Assigning.is (c.assigning.ensures (setting_of c.args.setting.now))

pub returns-in-Called : goal.returns-in-Called
returns-in-Called c = rw c.in-Called.is (c.call.ensures (setting_of c.args.setting.now))

pub returns-in-Prefixed : goal.returns-in-Prefixed
returns-in-Prefixed c = rw c.in-Prefixed.is (c.prefixing.ensures (setting_of c.args.setting.now))

pub returns-in-Compound : goal.returns-in-Compound
returns-in-Compound c = rw c.in-Compound.is (c.compound.ensures (setting_of c.args.setting.now))
