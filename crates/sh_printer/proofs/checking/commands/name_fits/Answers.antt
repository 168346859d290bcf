use Rattle.std.proofs.Common.{not, ◌&&◌, sym, ap, ◌∙◌}
use Rattle.std.specs.Prelude.{◌||◌}
use Rattle.sh_grammar.specs.Shape as shape
use Rattle.sh_printing.specs.Printable.{is_assignment}
use Rattle.sh_printing.specs.Spellable.{is_reserved_word}
use Rattle.sh_syntax.proofs.Views.{word_is}
use Rattle.std.specs.Prelude.{map}
use Rattle.std.proofs.Common.{List}
use Rattle.sh_printer.proofs.Firsts.{first}
use Rattle.sh_printing.specs.Printable.{name_fits}
use Rattle.sh_syntax.specs.declared.tree.Word.{Word}
use Rattle.sh_syntax.specs.View.{view_word, words_of}
use Rattle.sh_printer.proofs.checking.commands.name_fits.Goals as goal

pub returns-in-len1-up : goal.returns-in-len1-up
returns-in-len1-up c = (rw c.as_slice.ensures at c.first_fits.ensures) ∙ ap (λ (p : shape.Parts). not (is_assignment p) && (c.args.led || not (is_reserved_word p))) (sym (word_is c.first-item.result)) ∙ sym (ap (λ (l : List Word). name_fits c.args.led (words_of (map view_word l))) (first c.args.words.now c.first-item.result c.in-len1-up.len_at_least c.first-item.is))
