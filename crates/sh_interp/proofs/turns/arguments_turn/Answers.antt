use Rattle.std.proofs.Common.{◌≡◌, refl, sym}
use Rattle.sh_interp.specs.Views.{setting_of}
use Rattle.sh_interp.proofs.turns.arguments_turn.Goals as goal

pub returns-in-Simple : goal.returns-in-Simple
returns-in-Simple c = λ z. rw c.in-Simple.is (c.simple.ensures z)

pub returns-in-Walk : goal.returns-in-Walk
returns-in-Walk c = λ z. rw c.in-Walk.is (c.walk.ensures z)
