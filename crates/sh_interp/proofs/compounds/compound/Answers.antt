use Rattle.std.proofs.Common.{◌≡◌, ◌∙◌, [], ◌∷◌, drop, sym, refl, ap, true, false}
use Rattle.std.specs.Prelude.{map, option_map}
use Rattle.sh_grammar.specs.Shape as shape
use Rattle.sh_checks.specs.Branches.{branch_views}
use Rattle.sh_syntax.specs.View.{view, view_command, view_kind, view_word, words_of, branches_of, otherwise_of, for_words_of}
use Rattle.sh_syntax.proofs.Views.{simple_is, group_is, subshell_is, if_is, loop_is, for_is, case_is, function_kind_is, function_is}
use Rattle.sh_builtins.specs.Views.{flow_of, place_of}
use Rattle.sh_meaning.specs.Commands.{script_run, for_words_run, level}
use Rattle.sh_meaning.specs.Own.{is_zero}
use Rattle.sh_frames.specs.Payloads.{to_ended}
use Rattle.sh_frames.proofs.CommandLaws.{branches_go, listed_goes, walk_goes}
use Rattle.sh_frames.proofs.ShellLaws.{subshell_goes}
use Rattle.sh_interp.specs.Views.{stack_of, state_of, whole_of}
use Rattle.sh_interp.proofs.Heads.{first_is, none_is, not_zero}
use Rattle.sh_interp.proofs.compounds.compound.Goals as goal

pub returns-in-Group : goal.returns-in-Group
returns-in-Group c = λ z. rw (c.in-Group.is, group_is c.in-Group.script) (c.begin.ensures z)

pub returns-in-Subshell : goal.returns-in-Subshell
returns-in-Subshell c = λ z. rw (c.in-Subshell.is, subshell_is c.in-Subshell.script) (c.subshell.ensures z)

pub returns-in-If : goal.returns-in-If
returns-in-If c = λ z. rw (c.in-If.is, if_is c.in-If.parts c.in-If.otherwise) (rw c.as_slice.ensures at (c.branches.ensures z))

pub returns-in-Loop : goal.returns-in-Loop
returns-in-Loop c = λ z. rw (c.in-Loop.is, loop_is c.in-Loop.until c.in-Loop.test c.in-Loop.body) (c.begin_loop.ensures z)

pub returns-in-For : goal.returns-in-For
returns-in-For c = λ z. rw (c.in-For.is, for_is c.in-For.name c.in-For.words c.in-For.body) (rw c.bytes.ensures at (c.walk.ensures z))

pub returns-in-Case : goal.returns-in-Case
returns-in-Case c = λ z. rw (c.in-Case.is, case_is c.in-Case.subject c.in-Case.items) (rw c.as_slice-in-Case.ensures at (c.begin_case.ensures z))

pub returns-in-Simple : goal.returns-in-Simple
returns-in-Simple c = λ z. rw (c.in-Simple.is, simple_is c.in-Simple.assigns c.in-Simple.words) refl

pub returns-in-Function : goal.returns-in-Function
returns-in-Function c = λ z.
    rw (c.in-Function.is, function_kind_is c.in-Function.function, function_is c.in-Function.function)
    (rw (c.bytes-name.ensures, c.get-body.ensures) at (c.defining.ensures z))
