use Rattle.std.proofs.Common.{◌≡◌}
use Rattle.sh_grammar.specs.State.{word_in}
use Rattle.sh_parser.specs.Values.{nodes}
use Rattle.sh_parser.proofs.reader.word_in_values.Given as goal

abbrev pub invariant-loop-value : goal.invariant-loop-value
invariant-loop-value l = word_in (nodes l.value-iterator.rest.items) ≡ word_in (nodes l.fn.values)
