use Rattle.std.proofs.Common.{sym, ◌∙◌}
use Rattle.std.specs.Prelude.{map}
use Rattle.sh_syntax.specs.View.{view_redirect}
use Rattle.sh_printer.proofs.Bodies.{gap_here, gap_none}
use Rattle.sh_printer.proofs.redirects.gap.Goals as goal

pub returns-then-has_body-clause-text : goal.returns-then-has_body-clause-text
returns-then-has_body-clause-text c = λ full. sym (gap_here full (map view_redirect c.args.owed.now) (sym c.has_body.ensures ∙ c.if-has_body.true))

pub returns-clause-text : goal.returns-clause-text
returns-clause-text c = λ full. sym (gap_none full (map view_redirect c.args.owed.now) (sym c.has_body.ensures ∙ c.if-has_body.false))
