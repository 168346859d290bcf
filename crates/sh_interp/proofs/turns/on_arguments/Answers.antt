use Rattle.std.proofs.Common.{◌≡◌, refl, sym}
use Rattle.sh_interp.specs.Views.{setting_of}
use Rattle.sh_interp.proofs.turns.on_arguments.Goals as goal

pub returns-in-Arguments : goal.returns-in-Arguments
returns-in-Arguments c = λ z. rw c.in-Arguments.is (c.arguments_turn.ensures z)
