use Rattle.std.proofs.Common.{◌≡◌, ◌++◌, false}
use Rattle.sh_checks.specs.Walks.{behind, nodes_in, signs_of}
use Rattle.sh_checks.proofs.sums.behind_signs.Given as goal

abbrev pub invariant-expressions : goal.invariant-expressions
invariant-expressions l = l.found ++ signs_of l.waiting ≡ behind l.expr false

abbrev pub decreases-expressions : goal.decreases-expressions
decreases-expressions l = nodes_in l.waiting
