use Rattle.std.proofs.Common.{◌≡◌, refl, sym}
use Rattle.sh_interp.specs.Views.{setting_of}
use Rattle.sh_interp.proofs.turns.turn.Goals as goal

pub returns-in-Word : goal.returns-in-Word
returns-in-Word c = rw c.in-Word.is (c.on_word.ensures (setting_of c.args.setting.now))

pub returns-in-Numbers : goal.returns-in-Numbers
returns-in-Numbers c = rw c.in-Numbers.is (c.on_numbers.ensures (setting_of c.args.setting.now))

pub returns-in-Fields : goal.returns-in-Fields
returns-in-Fields c = rw c.in-Fields.is (c.on_fields.ensures (setting_of c.args.setting.now))

pub returns-in-Arguments : goal.returns-in-Arguments
returns-in-Arguments c = rw c.in-Arguments.is (c.on_arguments.ensures (setting_of c.args.setting.now))

pub returns-in-Truth : goal.returns-in-Truth
returns-in-Truth c = rw c.in-Truth.is (c.on_truth.ensures (setting_of c.args.setting.now))

pub returns-in-Saved : goal.returns-in-Saved
returns-in-Saved c = rw c.in-Saved.is c.on_saved.ensures

pub returns-in-Made : goal.returns-in-Made
returns-in-Made c = rw c.in-Made.is c.on_made.ensures

pub returns-in-Ended : goal.returns-in-Ended
returns-in-Ended c = rw c.in-Ended.is c.on_ended.ensures
