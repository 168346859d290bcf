use Rattle.std.proofs.Common.{◌≡◌, ◌∙◌, ℕ, suc, [], ◌∷◌, drop, sym, refl, ap, true, false}
use Rattle.std.specs.Prelude.{map, option_map}
use Rattle.sh_grammar.specs.Shape as shape
use Rattle.shell_world.specs.Runs.{with_own}
use Rattle.shell_runs.specs.Calls.{called_run}
use Rattle.sh_syntax.specs.View.{view, view_command, view_kind, view_word, view_assign, view_redirect, words_of, assigns_of, redirects_of}
use Rattle.sh_builtins.specs.Views.{flow_of, place_of}
use Rattle.sh_meaning.specs.Commands.{script_run, command_run, level}
use Rattle.sh_meaning.specs.Own.{is_zero, with_arguments, parameters_back}
use Rattle.sh_frames.specs.Payloads.{to_ended}
use Rattle.sh_frames.proofs.CommandLaws.{around_goes, nameless_goes, prefixed_goes}
use Rattle.sh_frames.proofs.ShellLaws.{call_goes}
use Rattle.sh_interp.specs.Views.{stack_of, state_of, whole_of, prefixed_of}
use Rattle.sh_interp.proofs.Heads.{first_is, none_is, not_zero, first_of}
use Rattle.sh_interp.proofs.Turning.{taken, moved}
use Rattle.sh_interp.proofs.jobs.prefixing.Goals as goal

pub returns : goal.returns
returns c = λ z. rw (prefixed_goes z c.args.shell.now.levels (stack_of c.args.frames.now) c.args.shell.now.turns (state_of c.args.shell.now) (assigns_of (map view_assign c.args.assigns.now)) (prefixed_of c.args.command), c.in_ok-push-2.ensures, c.in_ok-push.ensures, c.new.ensures) (refl, refl)
