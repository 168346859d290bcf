use Rattle.std.proofs.Common.{refl, arith}
use Rattle.sh_printer.specs.Checks.{command_check_weight, command_holds, word_check_weight, word_holds}
use Rattle.sh_printer.proofs.WordChecks.{splitting}
use Rattle.sh_syntax.proofs.Views.{simple_is, group_is, subshell_is, if_is, loop_is, for_is, case_is, function_kind_is}
use Rattle.sh_printer.proofs.checking.commands.kind_apart.Goals as goal

pub returns-in-Simple : goal.returns-in-Simple
unfolding word_holds word_check_weight command_holds command_check_weight
returns-in-Simple c = rw (c.in-Simple.is, simple_is c.in-Simple.assigns c.in-Simple.words) (rw (c.as_slice.ensures, c.as_slice-in-Simple.ensures) at c.simple_apart.ensures)

pub returns-in-Group : goal.returns-in-Group
unfolding word_holds word_check_weight command_holds command_check_weight
returns-in-Group c = rw (c.in-Group.is, group_is c.in-Group.script) (splitting _ _ _ _ c.closed_apart.result refl (omega arith) c.closed_apart.ensures)

pub returns-in-Subshell : goal.returns-in-Subshell
unfolding word_holds word_check_weight command_holds command_check_weight
returns-in-Subshell c = rw (c.in-Subshell.is, subshell_is c.in-Subshell.script) (splitting _ _ _ _ c.closed_apart-in-Subshell.result refl (omega arith) c.closed_apart-in-Subshell.ensures)

pub returns-in-If : goal.returns-in-If
unfolding word_holds word_check_weight command_holds command_check_weight
returns-in-If c = rw (c.in-If.is, if_is c.in-If.parts c.in-If.otherwise) (splitting _ _ _ _ c.branching_apart.result refl (omega arith) (rw c.as_slice-in-If.ensures at c.branching_apart.ensures))

pub returns-in-Loop : goal.returns-in-Loop
unfolding word_holds word_check_weight command_holds command_check_weight
returns-in-Loop c = rw (c.in-Loop.is, loop_is c.in-Loop.until c.in-Loop.test c.in-Loop.body) (splitting _ _ _ _ c.loop_apart.result refl (omega arith) (c.loop_apart.ensures c.in-Loop.until))

pub returns-in-For : goal.returns-in-For
unfolding word_holds word_check_weight command_holds command_check_weight
returns-in-For c = rw (c.in-For.is, for_is c.in-For.name c.in-For.words c.in-For.body) (splitting _ _ _ _ c.for_apart.result refl (omega arith) (rw c.bytes.ensures at c.for_apart.ensures))

pub returns-in-Case : goal.returns-in-Case
unfolding word_holds word_check_weight command_holds command_check_weight
returns-in-Case c = rw (c.in-Case.is, case_is c.in-Case.subject c.in-Case.items) (splitting _ _ _ _ c.case_apart.result refl (omega arith) (rw c.as_slice-in-Case.ensures at c.case_apart.ensures))

pub returns-in-Function : goal.returns-in-Function
unfolding word_holds word_check_weight command_holds command_check_weight
returns-in-Function c = rw (c.in-Function.is, function_kind_is c.in-Function.function) (splitting _ _ _ _ c.function_apart.result refl (omega arith) c.function_apart.ensures)
