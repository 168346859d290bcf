use Rattle.std.proofs.Common.{◌≡◌, refl, sym}
use Rattle.sh_interp.specs.Views.{setting_of}
use Rattle.sh_interp.proofs.turns.fields_turn.Goals as goal

pub returns-in-Words : goal.returns-in-Words
returns-in-Words c = λ z. rw c.in-Words.is (c.words.ensures z)
