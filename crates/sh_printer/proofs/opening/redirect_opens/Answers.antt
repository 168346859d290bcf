use Rattle.std.proofs.Common.{not, sym, ap, ◌∙◌}
use Rattle.sh_printer.proofs.Openings.{redirect_then, redirect_else}
use Rattle.sh_printer.proofs.opening.redirect_opens.Goals as goal

pub returns-then-not-is_here : goal.returns-then-not-is_here
returns-then-not-is_here c = (rw c.as_slice.ensures at c.parts_open.ensures) ∙ sym (redirect_then c.args.redirect.now c.is_here.result c.is_here.ensures c.if-not-is_here.true)

pub returns-else-not-is_here : goal.returns-else-not-is_here
returns-else-not-is_here c = ap not c.if-not-is_here.false ∙ sym (redirect_else c.args.redirect.now c.is_here.result c.is_here.ensures c.if-not-is_here.false)
