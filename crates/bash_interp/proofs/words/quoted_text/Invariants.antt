use Rattle.std.proofs.Common.{◌≡◌}
use Rattle.bash_meaning.specs.Meaning.{quoted_part}
use Rattle.bash_interp.specs.Shells.{state_of, with_front}
use Rattle.bash_interp.proofs.Expanding.{rest}
use Rattle.bash_interp.proofs.words.quoted_text.Given as goal

abbrev pub invariant-loop-part : goal.invariant-loop-part
invariant-loop-part l = with_front l.text (rest quoted_part l.shell.turns (state_of l.shell) l.parts l.part-index) ≡ rest quoted_part l.shell.turns (state_of l.shell) l.parts 0
