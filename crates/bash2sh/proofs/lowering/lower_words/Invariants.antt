use Rattle.std.proofs.Common.{◌≡◌, take}
use Rattle.std.specs.Prelude.{map}
use Rattle.sh_syntax.specs.View.{view_word}
use Rattle.bash2sh.specs.Trees.{word_lowered}
use Rattle.bash2sh.proofs.lowering.lower_words.Given as goal

abbrev pub invariant-loop-word : goal.invariant-loop-word
invariant-loop-word l = map view_word l.lowered ≡ map word_lowered (take l.word-index l.words)
