use Rattle.std.proofs.Common.{◌≤◌, sym, ap, ◌∙◌, subst}
use Rattle.sh_grammar.specs.Shape as shape
use Rattle.sh_printer.specs.Pieces.{piece_weight}
use Rattle.sh_printer.specs.Weights.{value_weight}
use Rattle.sh_printing.specs.Printing.{value_text}
use Rattle.sh_printer.proofs.ValueViews.{value_view}
use Rattle.sh_printer.proofs.words.value_piece.Goals as goal

pub returns-clause-text : goal.returns-clause-text
returns-clause-text c = λ full. c.optional_word.ensures.text full ∙ ap (value_text full) (sym (value_view _ c.args.value.now))

pub returns-clause-weight : goal.returns-clause-weight
returns-clause-weight c = subst (λ (v : shape.Value). piece_weight c.optional_word.result ≤ value_weight v) (sym (value_view _ c.args.value.now)) c.optional_word.ensures.weight
