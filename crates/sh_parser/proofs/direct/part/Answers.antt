use Rattle.std.proofs.Common.{◌≡◌, ℕ, List, ◌∷◌, [], true, false, Some, ◌∙◌}
use Rattle.text_grammar.specs.Grammar.{rule}
use Rattle.text_grammar.specs.Values.{vals}
use Rattle.sh_grammar.specs.Bytes.{Text, in_word}
use Rattle.sh_grammar.specs.State.{part_node}
use Rattle.sh_grammar.specs.Table as table
use Rattle.sh_grammar.specs.Spelling.{sh}
use Rattle.sh_syntax.specs.View.{view_part}
use Rattle.sh_parser.specs.Views.{state}
use Rattle.sh_parser.proofs.AtOnce.{where_read, part_is_double, single_here, double_here}
use Rattle.sh_parser.proofs.direct.part.Goals as goal

pub returns-then-not-single_begins-clause-read : goal.returns-then-not-single_begins-clause-read
returns-then-not-single_begins-clause-read c =
    let s = state c.args.bytes.now c.args.notes.now in
    where_read c.quoted.result
    (λ x. (n : ℕ) (ds : List Text) → vals (sh n ds) (rule table.double_quotes) s ≡ Some (part_node (view_part x.0) ∷ [], state x.1.now c.args.notes.now))
    (λ x. (n : ℕ) (ds : List Text) → vals (sh n ds) (rule (table.part in_word)) s ≡ Some (part_node (view_part x.0) ∷ [], state x.1.now c.args.notes.now))
    (λ x p n ds. part_is_double n ds in_word s (single_here s c.single_begins.result false c.single_begins.ensures c.if-not-single_begins.true) (double_here s c.double_begins.result true c.double_begins.ensures c.if-double_begins.true) ∙ p n ds)
    c.quoted.ensures.read
