use Rattle.std.proofs.Common.{ℕ, ◌+◌}
use Rattle.span_text.specs.Expression.{nodes, waiting}
use Rattle.span_text.proofs.expr.Expr.drop.Given as goal

abbrev pub decreases-nodes : goal.decreases-nodes
decreases-nodes l = nodes l.self + waiting l.later
