use Rattle.std.proofs.Common.{◌≡◌, ◌++◌}
use Rattle.sh_parser.proofs.values.joined.Given as goal

abbrev pub invariant-loop-value : goal.invariant-loop-value
invariant-loop-value l = l.front ++ l.value-iterator.rest.items ≡ l.fn.front ++ l.fn.values
