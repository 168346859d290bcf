use Rattle.std.proofs.Common.{refl, sym, ◌∙◌}
use Rattle.sh_printer.proofs.commands.has_front.Goals as goal

pub returns-then-has_assigns : goal.returns-then-has_assigns
returns-then-has_assigns c = rw (sym c.has_assigns.ensures ∙ c.if-has_assigns.true) refl

pub returns-then-has_words : goal.returns-then-has_words
returns-then-has_words c = rw (sym c.has_assigns.ensures ∙ c.if-has_assigns.false, sym c.has_words.ensures ∙ c.if-has_words.true, c.words_last.ensures) refl

pub returns : goal.returns
returns c = rw (sym c.has_assigns.ensures ∙ c.if-has_assigns.false, sym c.has_words.ensures ∙ c.if-has_words.false) refl
