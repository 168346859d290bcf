use Rattle.std.proofs.Common.{◌≡◌, refl, sym}
use Rattle.sh_interp.specs.Views.{setting_of}
use Rattle.sh_interp.proofs.turns.truth_turn.Goals as goal

pub returns-in-Patterns : goal.returns-in-Patterns
returns-in-Patterns c = λ z. rw c.in-Patterns.is (c.patterns.ensures z)

pub returns-in-Assigns : goal.returns-in-Assigns
returns-in-Assigns c = λ z. rw c.in-Assigns.is (c.assigns.ensures z)
