use Rattle.std.proofs.Common.{refl, sym, ◌∙◌, arith}
use Rattle.sh_printer.specs.Pieces.{word_text, word_weight}
use Rattle.sh_syntax.specs.View.{view_redirect}
use Rattle.sh_grammar.specs.Bytes.{in_body}
use Rattle.sh_printing.specs.Marks.{blank}
use Rattle.sh_printing.specs.Printing.{parts_open, parts_text}
use Rattle.sh_printer.specs.Pieces.{owed_of}
use Rattle.std.specs.Prelude.{take}
use Rattle.sh_printer.proofs.RedirectTexts.{opens_clear, still_more, redirect_weighs, rest_less}
use Rattle.sh_printer.proofs.redirects.later_redirects.Goals as goal

pub returns-then-redirect_opens-clause-text : goal.returns-then-redirect_opens-clause-text
unfolding word_text word_weight
returns-then-redirect_opens-clause-text c = λ full.
    rw (c.split_at.ensures.back, opens_clear full (view_redirect c.args.next.now).op (parts_open (view_redirect c.args.next.now).word) (parts_text full in_body blank (view_redirect c.args.next.now).word) (owed_of full (take c.args.done c.args.all.now)) (sym c.redirect_opens.ensures ∙ c.if-redirect_opens.true)) refl

pub returns-then-redirect_opens-clause-weight : goal.returns-then-redirect_opens-clause-weight
unfolding word_text word_weight
returns-then-redirect_opens-clause-weight c =
    let k = redirect_weighs c.args.all.now c.args.done c.args.next.now c.requires.within c.requires.next in
    let l = rest_less c.args.all.now c.args.done in
    rw c.split_at.ensures.back (omega (arith, k, l))

pub returns-clause-text : goal.returns-clause-text
unfolding word_text word_weight
returns-clause-text c = λ full. rw (still_more full c.args.all.now c.args.done c.args.next.now c.requires.within c.requires.next (sym c.redirect_opens.ensures ∙ c.if-redirect_opens.false)) refl

pub returns-clause-weight : goal.returns-clause-weight
unfolding word_text word_weight
returns-clause-weight c =
    let k = redirect_weighs c.args.all.now c.args.done c.args.next.now c.requires.within c.requires.next in
    omega (arith, k)
