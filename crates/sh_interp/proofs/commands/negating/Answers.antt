use Rattle.std.proofs.Common.{◌≡◌, ◌∙◌, [], ◌∷◌, drop, sym, refl, ap, true, false}
use Rattle.std.specs.Prelude.{map}
use Rattle.sh_grammar.specs.Shape as shape
use Rattle.shell_runs.specs.Shells.{buffered, handed, stage_run}
use Rattle.sh_checks.specs.Branches.{link_views}
use Rattle.sh_syntax.specs.declared.tree.Command.{out-Command}
use Rattle.sh_syntax.specs.declared.tree.Item.{out-Item}
use Rattle.sh_syntax.specs.declared.tree.Pipeline.{out-Pipeline}
use Rattle.sh_syntax.specs.declared.tree.AndOr.{out-AndOr}
use Rattle.sh_syntax.specs.View.{view, view_command, view_chain, view_item, view_kind, view_pipeline, view_word, view_assign, view_redirect, words_of, assigns_of, redirects_of, stages_of, items_of, links_of}
use Rattle.sh_syntax.proofs.Views.{command_is, simple_is, pipeline_is, chain_is, item_is}
use Rattle.sh_builtins.specs.Views.{flow_of, place_of}
use Rattle.sh_meaning.specs.Commands.{script_run, command_run, piped_run, stages_run, redirects_run, in_shell_place, level}
use Rattle.sh_meaning.specs.Own.{fds_of, with_fds, is_zero}
use Rattle.sh_frames.specs.Payloads.{to_ended}
use Rattle.sh_frames.proofs.CommandLaws.{simple_goes, script_goes, joined_goes}
use Rattle.sh_frames.proofs.ShellLaws.{stage_goes, pipeline_goes, negated_goes}
use Rattle.sh_interp.specs.Views.{stack_of, state_of, whole_of}
use Rattle.sh_interp.proofs.Heads.{first_is, none_is, not_zero, piped_more, stages_more}
use Rattle.sh_interp.proofs.Turning.{moved}
use Rattle.sh_interp.proofs.commands.negating.Goals as goal

pub returns : goal.returns
returns c = λ z.
    rw (negated_goes z c.args.shell.now.levels (stack_of c.args.frames.now) c.args.shell.now.turns (state_of c.args.shell.now) (stages_run z (level z c.args.shell.now.levels) (place_of c.args.place) (stages_of (map view_command c.args.list.now)) c.args.shell.now.turns (state_of c.args.shell.now)))
    (rw c.in_ok-push.ensures at (c.stages.ensures z))
