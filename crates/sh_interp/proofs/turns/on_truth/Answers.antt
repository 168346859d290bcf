use Rattle.std.proofs.Common.{◌≡◌, refl, sym}
use Rattle.sh_interp.specs.Views.{setting_of}
use Rattle.sh_interp.proofs.turns.on_truth.Goals as goal

pub returns-in-Truth : goal.returns-in-Truth
returns-in-Truth c = λ z. rw c.in-Truth.is (c.truth_turn.ensures z)
