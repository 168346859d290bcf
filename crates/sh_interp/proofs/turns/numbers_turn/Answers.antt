use Rattle.std.proofs.Common.{◌≡◌, refl, sym}
use Rattle.sh_interp.specs.Views.{setting_of}
use Rattle.sh_interp.proofs.turns.numbers_turn.Goals as goal

pub returns-in-Operands : goal.returns-in-Operands
returns-in-Operands c = λ z. rw c.in-Operands.is (c.operands.ensures z)
