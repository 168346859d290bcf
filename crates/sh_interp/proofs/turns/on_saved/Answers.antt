use Rattle.std.proofs.Common.{◌≡◌, refl, sym}
use Rattle.sh_interp.specs.Views.{setting_of}
use Rattle.sh_interp.proofs.turns.on_saved.Goals as goal

pub returns-in-Saved : goal.returns-in-Saved
returns-in-Saved c = rw c.in-Saved.is c.saved_turn.ensures
