use Rattle.std.proofs.Common.{◌≡◌, refl, sym}
use Rattle.sh_interp.specs.Views.{setting_of}
use Rattle.sh_interp.proofs.turns.on_made.Goals as goal

pub returns-in-Made : goal.returns-in-Made
returns-in-Made c = rw c.in-Made.is c.made_turn.ensures
