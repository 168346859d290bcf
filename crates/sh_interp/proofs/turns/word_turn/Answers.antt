use Rattle.std.proofs.Common.{◌≡◌, refl, sym}
use Rattle.sh_interp.specs.Views.{setting_of}
use Rattle.sh_interp.proofs.turns.word_turn.Goals as goal

pub returns-in-Parts : goal.returns-in-Parts
returns-in-Parts c = λ z. rw c.in-Parts.is (c.parts.ensures z)

pub returns-in-Operand : goal.returns-in-Operand
returns-in-Operand c = λ z. rw c.in-Operand.is (c.operand.ensures z)

pub returns-in-Pattern : goal.returns-in-Pattern
returns-in-Pattern c = λ z. rw c.in-Pattern.is (c.pattern.ensures z)

pub returns-in-Subject : goal.returns-in-Subject
returns-in-Subject c = λ z. rw c.in-Subject.is (c.subject.ensures z)
