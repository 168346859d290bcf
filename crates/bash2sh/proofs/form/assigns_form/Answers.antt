use Rattle.bash2sh.proofs.FormLaws.{assigns_other}
use Rattle.bash2sh.proofs.form.assigns_form.Goals as goal

pub returns-else-assigns-eq1 : goal.returns-else-assigns-eq1
returns-else-assigns-eq1 c = assigns_other c.args.assigns.now c.requires c.if-assigns-eq1.false
