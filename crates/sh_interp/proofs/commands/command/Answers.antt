use Rattle.std.proofs.Common.{◌≡◌, ◌∙◌, [], ◌∷◌, drop, sym, refl, ap, true, false}
use Rattle.std.specs.Prelude.{map}
use Rattle.sh_grammar.specs.Shape as shape
use Rattle.shell_runs.specs.Shells.{buffered, handed, stage_run}
use Rattle.sh_checks.specs.Branches.{link_views}
use Rattle.sh_syntax.specs.declared.tree.Command.{out-Command}
use Rattle.sh_syntax.specs.declared.tree.Item.{out-Item}
use Rattle.sh_syntax.specs.declared.tree.Pipeline.{out-Pipeline}
use Rattle.sh_syntax.specs.declared.tree.AndOr.{out-AndOr}
use Rattle.sh_syntax.specs.View.{view, view_command, view_chain, view_item, view_kind, view_pipeline, view_word, view_assign, view_redirect, words_of, assigns_of, redirects_of, stages_of, items_of, links_of}
use Rattle.sh_syntax.proofs.Views.{command_is, simple_is, group_is, subshell_is, if_is, loop_is, for_is, case_is, function_kind_is, pipeline_is, chain_is, item_is}
use Rattle.sh_builtins.specs.Views.{flow_of, place_of}
use Rattle.sh_meaning.specs.Commands.{script_run, command_run, piped_run, stages_run, redirects_run, in_shell_place, level}
use Rattle.sh_meaning.specs.Own.{fds_of, with_fds, is_zero}
use Rattle.sh_frames.specs.Payloads.{to_ended}
use Rattle.sh_frames.proofs.CommandLaws.{simple_goes, script_goes, joined_goes}
use Rattle.sh_frames.proofs.ShellLaws.{stage_goes, pipeline_goes, negated_goes}
use Rattle.sh_interp.specs.Views.{stack_of, state_of, whole_of}
use Rattle.sh_interp.proofs.Heads.{first_is, none_is, not_zero, piped_more, stages_more}
use Rattle.sh_interp.proofs.Turning.{moved}
use Rattle.sh_interp.proofs.commands.command.Goals as goal

pub returns-in-Simple : goal.returns-in-Simple
returns-in-Simple c = λ z.
    rw (command_is c.args.command.now, c.in-Simple.is, simple_is c.in-Simple.assigns c.in-Simple.words)
    (rw (c.as_slice-words.ensures, c.as_slice.ensures, c.as_slice-redirects.ensures) at (c.simple.ensures z))

pub returns-in-Group : goal.returns-in-Group
returns-in-Group c = λ z.
    rw (command_is c.args.command.now, c.in-Group.is, group_is c.in-Group.field-0)
    (rw (c.in-Group.is, group_is c.in-Group.field-0, c.as_slice-redirects.ensures) at (c.begin.ensures z))

pub returns-in-Subshell : goal.returns-in-Subshell
returns-in-Subshell c = λ z.
    rw (command_is c.args.command.now, c.in-Subshell.is, subshell_is c.in-Subshell.field-0)
    (rw (c.in-Subshell.is, subshell_is c.in-Subshell.field-0, c.as_slice-redirects.ensures) at (c.begin-in-Subshell.ensures z))

pub returns-in-If : goal.returns-in-If
returns-in-If c = λ z.
    rw (command_is c.args.command.now, c.in-If.is, if_is c.in-If.parts c.in-If.otherwise)
    (rw (c.in-If.is, if_is c.in-If.parts c.in-If.otherwise, c.as_slice-redirects.ensures) at (c.begin-in-If.ensures z))

pub returns-in-Loop : goal.returns-in-Loop
returns-in-Loop c = λ z.
    rw (command_is c.args.command.now, c.in-Loop.is, loop_is c.in-Loop.until c.in-Loop.test c.in-Loop.body)
    (rw (c.in-Loop.is, loop_is c.in-Loop.until c.in-Loop.test c.in-Loop.body, c.as_slice-redirects.ensures) at (c.begin-in-Loop.ensures z))

pub returns-in-For : goal.returns-in-For
returns-in-For c = λ z.
    rw (command_is c.args.command.now, c.in-For.is, for_is c.in-For.name c.in-For.words c.in-For.body)
    (rw (c.in-For.is, for_is c.in-For.name c.in-For.words c.in-For.body, c.as_slice-redirects.ensures) at (c.begin-in-For.ensures z))

pub returns-in-Case : goal.returns-in-Case
returns-in-Case c = λ z.
    rw (command_is c.args.command.now, c.in-Case.is, case_is c.in-Case.subject c.in-Case.items)
    (rw (c.in-Case.is, case_is c.in-Case.subject c.in-Case.items, c.as_slice-redirects.ensures) at (c.begin-in-Case.ensures z))

pub returns-in-Function : goal.returns-in-Function
returns-in-Function c = λ z.
    rw (command_is c.args.command.now, c.in-Function.is, function_kind_is c.in-Function.field-0)
    (rw (c.in-Function.is, function_kind_is c.in-Function.field-0, c.as_slice-redirects.ensures) at (c.begin-in-Function.ensures z))
