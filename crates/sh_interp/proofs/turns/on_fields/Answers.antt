use Rattle.std.proofs.Common.{◌≡◌, refl, sym}
use Rattle.sh_interp.specs.Views.{setting_of}
use Rattle.sh_interp.proofs.turns.on_fields.Goals as goal

pub returns-in-Fields : goal.returns-in-Fields
returns-in-Fields c = λ z. rw c.in-Fields.is (c.fields_turn.ensures z)
