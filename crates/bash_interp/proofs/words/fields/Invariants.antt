use Rattle.std.proofs.Common.{◌≡◌, drop}
use Rattle.bash_tree.specs.View.{words_of}
use Rattle.bash_meaning.specs.Meaning.{fields}
use Rattle.bash_interp.specs.Shells.{state_of, with_fields}
use Rattle.bash_interp.proofs.words.fields.Given as goal

abbrev pub invariant-loop-word : goal.invariant-loop-word
invariant-loop-word l = with_fields l.fields (fields (words_of (drop l.word-index l.words)) l.shell.turns (state_of l.shell)) ≡ fields (words_of l.words) l.shell.turns (state_of l.shell)
