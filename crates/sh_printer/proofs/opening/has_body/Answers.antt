use Rattle.std.proofs.Common.{sym, ◌∙◌}
use Rattle.sh_printer.proofs.Openings.{heres_stop, heres_more, here_op}
use Rattle.sh_printer.proofs.opening.has_body.Goals as goal

pub returns-then-is_here : goal.returns-then-is_here
returns-then-is_here c = sym (heres_stop c.args.owed.now c.loop-redirect.redirect-index c.redirect-item.result c.loop-redirect-test.true c.redirect-item.is (here_op c.redirect-item.result ∙ sym c.is_here.ensures ∙ c.if-is_here.true)) ∙ c.loop-redirect.invariant

pub loop-redirect-preserved : goal.loop-redirect-preserved
loop-redirect-preserved c = heres_more c.args.owed.now c.loop-redirect.redirect-index c.redirect-item.result c.loop-redirect-test.true c.redirect-item.is (here_op c.redirect-item.result ∙ sym c.is_here.ensures ∙ c.if-is_here.false) ∙ c.loop-redirect.invariant
