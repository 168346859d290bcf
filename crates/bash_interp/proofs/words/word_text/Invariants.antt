use Rattle.std.proofs.Common.{◌≡◌}
use Rattle.bash_meaning.specs.Meaning.{word_part}
use Rattle.bash_interp.specs.Shells.{state_of, with_front}
use Rattle.bash_interp.proofs.Expanding.{rest}
use Rattle.bash_interp.proofs.words.word_text.Given as goal

abbrev pub invariant-loop-part : goal.invariant-loop-part
invariant-loop-part l = with_front l.text (rest word_part l.shell.turns (state_of l.shell) l.word.parts l.part-index) ≡ rest word_part l.shell.turns (state_of l.shell) l.word.parts 0
