use Rattle.std.proofs.Common.{◌≡◌, ◌+◌, ◌*◌, ◌≤◌}
use Rattle.std.specs.Prelude.{map}
use Rattle.span_text.specs.Expression.{nodes}
use Rattle.sh_printer.specs.Checks.{check_holds, check_weight}
use Rattle.sh_printer.specs.SumChecks.{counted, sum_rank}
use Rattle.sh_printer.specs.Weights.{words_weight}
use Rattle.sh_syntax.specs.View.{view_word, words_of}
use Rattle.sh_printer.proofs.checking.+printable.Given as goal

abbrev pub decreases-holds : goal.decreases-holds
decreases-holds l = check_weight l.check

abbrev pub decreases-sum_holds : goal.decreases-sum_holds
decreases-sum_holds l = 200 * nodes l.expr.now + words_weight (words_of (map view_word l.operands.now)) + 105

abbrev pub decreases-counted : goal.decreases-counted
decreases-counted l = sum_rank l.sum + words_weight (words_of (map view_word l.given.words.now))

abbrev pub decreases-operand_counted : goal.decreases-operand_counted
decreases-operand_counted l = words_weight (words_of (map view_word l.given.words.now)) + 1

abbrev pub invariant-holds-checks : goal.invariant-holds-checks
invariant-holds-checks l = (check_holds l.now ≡ check_holds l.initial.now) × (check_weight l.now ≤ check_weight l.initial.now)

abbrev pub decreases-holds-checks : goal.decreases-holds-checks
decreases-holds-checks l = check_weight l.now

abbrev pub invariant-counted-sums : goal.invariant-counted-sums
invariant-counted-sums l = (counted l.given l.now l.count ≡ counted l.given l.initial.now l.initial.count) × (sum_rank l.now ≤ sum_rank l.initial.now)

abbrev pub decreases-counted-sums : goal.decreases-counted-sums
decreases-counted-sums l = sum_rank l.now
