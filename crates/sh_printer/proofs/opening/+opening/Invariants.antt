use Rattle.std.proofs.Common.{◌≡◌, drop}
use Rattle.std.specs.Prelude.{map}
use Rattle.sh_printing.specs.Printing.{parts_open, words_open}
use Rattle.sh_syntax.specs.View.{view_part, view_word, parts_of, words_of}
use Rattle.sh_printer.proofs.opening.+opening.Given as goal

abbrev pub invariant-parts_open-loop-part : goal.invariant-parts_open-loop-part
invariant-parts_open-loop-part l = parts_open (parts_of (map view_part (drop l.part-index l.parts))) ≡ parts_open (parts_of (map view_part l.parts))

abbrev pub invariant-words_open-loop-word : goal.invariant-words_open-loop-word
invariant-words_open-loop-word l = words_open (words_of (map view_word (drop l.word-index l.words))) ≡ words_open (words_of (map view_word l.words))
