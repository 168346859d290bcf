use Rattle.std.proofs.Common.{◌≡◌, ◌∙◌, ℕ, suc, [], ◌∷◌, drop, sym, refl, ap, true, false}
use Rattle.std.specs.Prelude.{map, option_map}
use Rattle.sh_grammar.specs.Shape as shape
use Rattle.shell_world.specs.Runs.{with_own}
use Rattle.shell_runs.specs.Calls.{called_run}
use Rattle.sh_syntax.specs.View.{view, view_command, view_kind, view_word, view_assign, view_redirect, words_of, assigns_of, redirects_of}
use Rattle.sh_builtins.specs.Views.{flow_of, place_of}
use Rattle.sh_meaning.specs.Commands.{script_run, command_run, level}
use Rattle.sh_meaning.specs.Own.{is_zero, with_arguments, parameters_back}
use Rattle.sh_frames.specs.Payloads.{to_ended}
use Rattle.sh_frames.proofs.CommandLaws.{around_goes, nameless_goes, prefixed_goes}
use Rattle.sh_frames.proofs.ShellLaws.{call_goes}
use Rattle.sh_interp.specs.Views.{stack_of, state_of, whole_of, prefixed_of}
use Rattle.sh_interp.proofs.Heads.{first_is, none_is, not_zero, first_of}
use Rattle.sh_interp.proofs.Turning.{taken, moved}
use Rattle.sh_interp.proofs.jobs.named.Goals as goal

pub returns-in-Builtin : goal.returns-in-Builtin
returns-in-Builtin c = λ z name args e. rw c.in-Builtin.is (rw e at (c.begin-in-Builtin.ensures z))

pub returns-in-External : goal.returns-in-External
returns-in-External c = λ z name args e. rw c.in-External.is (rw e at (c.begin-in-External.ensures z))

pub returns-else-is_led : goal.returns-else-is_led
returns-else-is_led c = λ z name args e. rw (c.in-Special.is, sym c.is_led.ensures ∙ c.if-is_led.false) (rw e at (c.begin.ensures z))

pub returns-else-is_led-2 : goal.returns-else-is_led-2
returns-else-is_led-2 c = λ z name args e. rw (c.in-Function.is, sym c.is_led-in-Function.ensures ∙ c.if-is_led-2.false) (rw e at (c.begin-in-Function.ensures z))
