use Rattle.std.proofs.Common.{refl}
use Rattle.sh_syntax.proofs.Views.{simple_is, group_is, subshell_is, if_is, loop_is, for_is, case_is, function_kind_is}
use Rattle.sh_printer.proofs.checking.commands.is_compound.Goals as goal

pub returns-in-Simple : goal.returns-in-Simple
returns-in-Simple c = rw (c.in-Simple.is, simple_is c.in-Simple.assigns c.in-Simple.words) refl

pub returns-in-Group : goal.returns-in-Group
returns-in-Group c = rw (c.in-Group.is, group_is c.in-Group.field-0) refl

pub returns-in-Subshell : goal.returns-in-Subshell
returns-in-Subshell c = rw (c.in-Subshell.is, subshell_is c.in-Subshell.field-0) refl

pub returns-in-If : goal.returns-in-If
returns-in-If c = rw (c.in-If.is, if_is c.in-If.parts c.in-If.otherwise) refl

pub returns-in-Loop : goal.returns-in-Loop
returns-in-Loop c = rw (c.in-Loop.is, loop_is c.in-Loop.until c.in-Loop.test c.in-Loop.body) refl

pub returns-in-For : goal.returns-in-For
returns-in-For c = rw (c.in-For.is, for_is c.in-For.name c.in-For.words c.in-For.body) refl

pub returns-in-Case : goal.returns-in-Case
returns-in-Case c = rw (c.in-Case.is, case_is c.in-Case.subject c.in-Case.items) refl

pub returns-in-Function : goal.returns-in-Function
returns-in-Function c = rw (c.in-Function.is, function_kind_is c.in-Function.field-0) refl
