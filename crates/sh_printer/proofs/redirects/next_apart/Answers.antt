use Rattle.std.proofs.Common.{sym, ◌∙◌, arith}
use Rattle.std.specs.Prelude.{map}
use Rattle.sh_syntax.specs.View.{view_redirect}
use Rattle.sh_printer.proofs.Bodies.{next_here, next_none}
use Rattle.sh_printer.proofs.Comings.{coming}
use Rattle.sh_printer.proofs.redirects.next_apart.Goals as goal

pub returns-then-has_body : goal.returns-then-has_body
returns-then-has_body c = coming _ _ _ _ _ (λ full. sym (next_here full (map view_redirect c.args.owed.now) (sym c.has_body.ensures ∙ c.if-has_body.true))) (omega arith) c.whole_line.ensures

pub returns : goal.returns
returns c = record { whole = λ full. sym (next_none full (map view_redirect c.args.owed.now) (sym c.has_body.ensures ∙ c.if-has_body.false)); first_less = omega arith; second_less = omega arith; rest_less = omega arith }
