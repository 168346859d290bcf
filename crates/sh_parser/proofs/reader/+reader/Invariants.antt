-- How the functions of the reader get ahead: a body is read with fewer levels of bodies.
use Rattle.std.proofs.Common.{◌≡◌, ◌+◌, ◌*◌, true, List}
use Rattle.text_grammar.specs.Grammar.{rule}
use Rattle.text_grammar.specs.Values.{vals}
use Rattle.sh_grammar.specs.Bytes.{Text}
use Rattle.sh_grammar.specs.Spelling.{sh}
use Rattle.sh_parser.specs.Knowing.{MayBe, Grows}
use Rattle.sh_parser.specs.Tables as tables
use Rattle.sh_parser.specs.Tasks.{todos, go_on, all_ready}
use Rattle.sh_parser.specs.Values.{nodes}
use Rattle.sh_parser.specs.Views.{state}
use Rattle.sh_parser.proofs.reader.+reader.Given as goal

abbrev pub decreases-rule_of : goal.decreases-rule_of
decreases-rule_of l = 4 * l.levels + 3

abbrev pub decreases-here_of : goal.decreases-here_of
decreases-here_of l = 4 * l.levels + 2

abbrev pub decreases-document_of : goal.decreases-document_of
decreases-document_of l = 4 * l.levels + 1

abbrev pub decreases-expanded_of : goal.decreases-expanded_of
decreases-expanded_of l = 4 * l.levels

-- what the tasks give is what the rule gives in all, whatever bodies come behind those that are known
abbrev pub invariant-rule_of-turns : goal.invariant-rule_of-turns
invariant-rule_of-turns l =
    ((ds : List Text) → MayBe l.bodies ds → vals (sh l.levels ds) (rule (tables.rule l.fn.wanted)) (state l.fn.bytes l.fn.notes) ≡ go_on l.levels ds (todos l.tasks.items) (nodes l.values) (state l.rest l.notes))
    × (all_ready (todos l.tasks.items) ≡ true)
    × Grows l.fn.bodies l.bodies

abbrev pub decreases-rule_of-turns : goal.decreases-rule_of-turns
decreases-rule_of-turns l = l.left
