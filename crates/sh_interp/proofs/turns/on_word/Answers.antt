use Rattle.std.proofs.Common.{◌≡◌, refl, sym}
use Rattle.sh_interp.specs.Views.{setting_of}
use Rattle.sh_interp.proofs.turns.on_word.Goals as goal

pub returns-in-Word : goal.returns-in-Word
returns-in-Word c = λ z. rw c.in-Word.is (c.word_turn.ensures z)
