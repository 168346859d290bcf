use Rattle.std.proofs.Common.{◌≡◌, drop}
use Rattle.std.specs.Prelude.{map}
use Rattle.sh_meaning.specs.Lists.{depends, depends_words}
use Rattle.sh_syntax.specs.View.{view_part, view_word, parts_of, words_of}
use Rattle.sh_checks.proofs.names.+depends.Given as goal

abbrev pub invariant-depends-loop-part : goal.invariant-depends-loop-part
invariant-depends-loop-part l = depends l.names (parts_of (map view_part (drop l.part-index l.parts))) ≡ depends l.names (parts_of (map view_part l.parts))

abbrev pub invariant-depends_words-loop-word : goal.invariant-depends_words-loop-word
invariant-depends_words-loop-word l = depends_words l.names (words_of (map view_word (drop l.word-index l.words))) ≡ depends_words l.names (words_of (map view_word l.words))
