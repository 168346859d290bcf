use Rattle.std.proofs.Common.{refl, arith}
use Rattle.sh_printer.specs.Pieces.{word_text, word_weight}
use Rattle.sh_syntax.proofs.Views.{redirect_is, word_is}
use Rattle.sh_printer.proofs.redirects.target.Goals as goal

pub returns-in-HereLiteral-clause-text : goal.returns-in-HereLiteral-clause-text
unfolding word_text word_weight
returns-in-HereLiteral-clause-text c = λ full. rw (c.as_slice-word.ensures, redirect_is c.args.redirect.now, c.in-HereLiteral.is, word_is _) refl

pub returns-in-HereLiteral-clause-weight : goal.returns-in-HereLiteral-clause-weight
unfolding word_text word_weight
returns-in-HereLiteral-clause-weight c = rw (c.as_slice-word.ensures, redirect_is c.args.redirect.now, word_is _) (omega arith)

pub returns-in-HereExpanded-clause-text : goal.returns-in-HereExpanded-clause-text
unfolding word_text word_weight
returns-in-HereExpanded-clause-text c = λ full. rw (c.as_slice-word.ensures, redirect_is c.args.redirect.now, c.in-HereExpanded.is, word_is _) refl

pub returns-in-HereExpanded-clause-weight : goal.returns-in-HereExpanded-clause-weight
unfolding word_text word_weight
returns-in-HereExpanded-clause-weight c = rw (c.as_slice-word.ensures, redirect_is c.args.redirect.now, word_is _) (omega arith)

pub returns-in-Read-clause-text : goal.returns-in-Read-clause-text
unfolding word_text word_weight
returns-in-Read-clause-text c = λ full. rw (c.as_slice-word.ensures, redirect_is c.args.redirect.now, c.in-Read.is, word_is _) refl

pub returns-in-Read-clause-weight : goal.returns-in-Read-clause-weight
unfolding word_text word_weight
returns-in-Read-clause-weight c = rw (c.as_slice-word.ensures, redirect_is c.args.redirect.now, word_is _) (omega arith)

pub returns-in-Write-clause-text : goal.returns-in-Write-clause-text
unfolding word_text word_weight
returns-in-Write-clause-text c = λ full. rw (c.as_slice-word.ensures, redirect_is c.args.redirect.now, c.in-Write.is, word_is _) refl

pub returns-in-Write-clause-weight : goal.returns-in-Write-clause-weight
unfolding word_text word_weight
returns-in-Write-clause-weight c = rw (c.as_slice-word.ensures, redirect_is c.args.redirect.now, word_is _) (omega arith)

pub returns-in-Append-clause-text : goal.returns-in-Append-clause-text
unfolding word_text word_weight
returns-in-Append-clause-text c = λ full. rw (c.as_slice-word.ensures, redirect_is c.args.redirect.now, c.in-Append.is, word_is _) refl

pub returns-in-Append-clause-weight : goal.returns-in-Append-clause-weight
unfolding word_text word_weight
returns-in-Append-clause-weight c = rw (c.as_slice-word.ensures, redirect_is c.args.redirect.now, word_is _) (omega arith)

pub returns-in-CopyIn-clause-text : goal.returns-in-CopyIn-clause-text
unfolding word_text word_weight
returns-in-CopyIn-clause-text c = λ full. rw (c.as_slice-word.ensures, redirect_is c.args.redirect.now, c.in-CopyIn.is, word_is _) refl

pub returns-in-CopyIn-clause-weight : goal.returns-in-CopyIn-clause-weight
unfolding word_text word_weight
returns-in-CopyIn-clause-weight c = rw (c.as_slice-word.ensures, redirect_is c.args.redirect.now, word_is _) (omega arith)

pub returns-in-CopyOut-clause-text : goal.returns-in-CopyOut-clause-text
unfolding word_text word_weight
returns-in-CopyOut-clause-text c = λ full. rw (c.as_slice-word.ensures, redirect_is c.args.redirect.now, c.in-CopyOut.is, word_is _) refl

pub returns-in-CopyOut-clause-weight : goal.returns-in-CopyOut-clause-weight
unfolding word_text word_weight
returns-in-CopyOut-clause-weight c = rw (c.as_slice-word.ensures, redirect_is c.args.redirect.now, word_is _) (omega arith)
