use Rattle.std.proofs.Common.{◌≡◌, refl, sym}
use Rattle.sh_interp.specs.Views.{setting_of}
use Rattle.sh_interp.proofs.turns.on_ended.Goals as goal

pub returns-in-Ended : goal.returns-in-Ended
returns-in-Ended c = rw c.in-Ended.is c.ended_turn.ensures
