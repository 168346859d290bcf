use Rattle.std.proofs.Common.{◌≡◌}
use Rattle.sh_meaning.specs.Lists.{is_used_in_sum}
use Rattle.sh_checks.specs.Walks.{any_uses, nodes_in}
use Rattle.sh_checks.proofs.sums.is_used_in_sum.Given as goal

abbrev pub invariant-expressions : goal.invariant-expressions
invariant-expressions l = any_uses l.names l.waiting ≡ is_used_in_sum l.names l.expr

abbrev pub decreases-expressions : goal.decreases-expressions
decreases-expressions l = nodes_in l.waiting
