use Rattle.std.proofs.Common.{refl, ◌∙◌, arith}
use Rattle.sh_printer.specs.Checks.{command_check_weight, command_holds, word_check_weight, word_holds}
use Rattle.sh_syntax.proofs.Views.{redirect_is, word_is}
use Rattle.sh_printer.proofs.checking.redirects.target_check.Goals as goal

pub returns-in-Read-clause-holds : goal.returns-in-Read-clause-holds
unfolding word_holds word_check_weight command_holds command_check_weight
returns-in-Read-clause-holds c = c.word_check.ensures.holds ∙ rw (c.as_slice-parts.ensures, redirect_is c.args.redirect.now, c.in-Read.is, word_is _) refl

pub returns-in-Read-clause-weight : goal.returns-in-Read-clause-weight
unfolding word_holds word_check_weight command_holds command_check_weight
returns-in-Read-clause-weight c = rw (redirect_is c.args.redirect.now, word_is _) (omega (arith, rw c.as_slice-parts.ensures at c.word_check.ensures.weight))

pub returns-in-Write-clause-holds : goal.returns-in-Write-clause-holds
unfolding word_holds word_check_weight command_holds command_check_weight
returns-in-Write-clause-holds c = c.word_check-in-Write.ensures.holds ∙ rw (c.as_slice-parts.ensures, redirect_is c.args.redirect.now, c.in-Write.is, word_is _) refl

pub returns-in-Write-clause-weight : goal.returns-in-Write-clause-weight
unfolding word_holds word_check_weight command_holds command_check_weight
returns-in-Write-clause-weight c = rw (redirect_is c.args.redirect.now, word_is _) (omega (arith, rw c.as_slice-parts.ensures at c.word_check-in-Write.ensures.weight))

pub returns-in-Append-clause-holds : goal.returns-in-Append-clause-holds
unfolding word_holds word_check_weight command_holds command_check_weight
returns-in-Append-clause-holds c = c.word_check-in-Append.ensures.holds ∙ rw (c.as_slice-parts.ensures, redirect_is c.args.redirect.now, c.in-Append.is, word_is _) refl

pub returns-in-Append-clause-weight : goal.returns-in-Append-clause-weight
unfolding word_holds word_check_weight command_holds command_check_weight
returns-in-Append-clause-weight c = rw (redirect_is c.args.redirect.now, word_is _) (omega (arith, rw c.as_slice-parts.ensures at c.word_check-in-Append.ensures.weight))

pub returns-in-HereLiteral-clause-holds : goal.returns-in-HereLiteral-clause-holds
unfolding word_holds word_check_weight command_holds command_check_weight
returns-in-HereLiteral-clause-holds c = c.literal_body.ensures ∙ rw (c.as_slice-parts.ensures, redirect_is c.args.redirect.now, c.in-HereLiteral.is, word_is _) refl

pub returns-in-HereExpanded-clause-holds : goal.returns-in-HereExpanded-clause-holds
unfolding word_holds word_check_weight command_holds command_check_weight
returns-in-HereExpanded-clause-holds c = rw (c.as_slice-parts.ensures, redirect_is c.args.redirect.now, c.in-HereExpanded.is, word_is _) refl

pub returns-in-HereExpanded-clause-weight : goal.returns-in-HereExpanded-clause-weight
unfolding word_holds word_check_weight command_holds command_check_weight
returns-in-HereExpanded-clause-weight c = rw (c.as_slice-parts.ensures, redirect_is c.args.redirect.now, word_is _) (omega arith)

pub returns-in-CopyIn-clause-holds : goal.returns-in-CopyIn-clause-holds
unfolding word_holds word_check_weight command_holds command_check_weight
returns-in-CopyIn-clause-holds c = c.is_copied_word.ensures ∙ rw (c.as_slice-parts.ensures, redirect_is c.args.redirect.now, c.in-CopyIn.is, word_is _) refl

pub returns-in-CopyOut-clause-holds : goal.returns-in-CopyOut-clause-holds
unfolding word_holds word_check_weight command_holds command_check_weight
returns-in-CopyOut-clause-holds c = c.is_copied_word-in-CopyOut.ensures ∙ rw (c.as_slice-parts.ensures, redirect_is c.args.redirect.now, c.in-CopyOut.is, word_is _) refl
