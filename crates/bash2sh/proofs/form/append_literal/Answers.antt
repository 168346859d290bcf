use Rattle.std.proofs.Common.{sym}
use Rattle.std.proofs.lemmas.List.{append-nil}
use Rattle.bash2sh.specs.Form as form
use Rattle.bash2sh.proofs.Views.{plain_seen, exact_seen, double_seen, param_seen}
use Rattle.bash2sh.proofs.FormLaws.{texts_are}
use Rattle.bash2sh.proofs.form.append_literal.Goals as goal

pub returns-in-Plain : goal.returns-in-Plain
returns-in-Plain c = rw (plain_seen c.args.part.now c.in-Plain.bytes c.in-Plain.is) (rw c.bytes.ensures at c.append.ensures.ok)

pub returns-in-Exact : goal.returns-in-Exact
returns-in-Exact c = rw (exact_seen c.args.part.now c.in-Exact.bytes c.in-Exact.is) (rw c.bytes-in-Exact.ensures at c.append-in-Exact.ensures.ok)

pub returns-in-Double : goal.returns-in-Double
returns-in-Double c = rw (double_seen c.args.part.now c.in-Double.parts c.in-Double.is, texts_are form.plain_text c.in-Double.parts) (rw c.as_slice.ensures at c.append_all_plain.ensures)

pub returns-in-Param : goal.returns-in-Param
returns-in-Param c = rw (param_seen c.args.part.now _ _ c.in-Param.is) (sym (append-nil c.args.text.now))
