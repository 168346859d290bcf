use Rattle.std.proofs.Common.{refl}
use Rattle.bash2sh.specs.Form as form
use Rattle.bash2sh.proofs.Views.{plain_seen, exact_seen, double_seen, param_seen}
use Rattle.bash2sh.proofs.FormLaws.{forms_are}
use Rattle.bash2sh.proofs.form.part_form.Goals as goal

pub returns-in-Plain : goal.returns-in-Plain
returns-in-Plain c = rw (plain_seen c.args.part.now c.in-Plain.field-0 c.in-Plain.is) refl

pub returns-in-Exact : goal.returns-in-Exact
returns-in-Exact c = rw (exact_seen c.args.part.now c.in-Exact.field-0 c.in-Exact.is) refl

pub returns-in-Double : goal.returns-in-Double
returns-in-Double c = rw (double_seen c.args.part.now c.in-Double.parts c.in-Double.is, forms_are form.quoted_form c.in-Double.parts) (rw c.as_slice.ensures at c.quoted_forms.ensures)

pub returns-in-Param : goal.returns-in-Param
returns-in-Param c = rw (param_seen c.args.part.now _ _ c.in-Param.is) refl
