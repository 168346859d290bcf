use Rattle.std.proofs.Common.{◌≡◌, IfOk, subst, sym}
use Rattle.sh_grammar.specs.Shape as shape
use Rattle.sh_meaning.specs.Lists.{depends_value}
use Rattle.sh_checks.proofs.ValueViews.{value_view}
use Rattle.sh_checks.proofs.names.depends_value.Goals as goal

pub returns : goal.returns
returns c = subst (λ (v : shape.Value). IfOk c.depends_optional.result (λ is. is ≡ depends_value c.args.names.now v)) (sym (value_view _ c.args.value.now)) c.depends_optional.ensures
