use Rattle.std.proofs.Common.{refl}
use Rattle.sh_printer.proofs.PartViews.{plain_view, exact_view, double_view, tilde_view, param_view, subst_view, arith_view}
use Rattle.sh_printer.proofs.checking.parts.is_expansion.Goals as goal

pub returns-in-Plain : goal.returns-in-Plain
returns-in-Plain c = rw (plain_view c.args.part.now c.in-Plain.field-0 c.in-Plain.is) refl

pub returns-in-Exact : goal.returns-in-Exact
returns-in-Exact c = rw (exact_view c.args.part.now c.in-Exact.field-0 c.in-Exact.is) refl

pub returns-in-Double : goal.returns-in-Double
returns-in-Double c = rw (double_view c.args.part.now c.in-Double.field-0 c.in-Double.is) refl

pub returns-in-Tilde : goal.returns-in-Tilde
returns-in-Tilde c = rw (tilde_view c.args.part.now c.in-Tilde.is) refl

pub returns-in-Param : goal.returns-in-Param
returns-in-Param c = rw (param_view c.args.part.now c.in-Param.param c.in-Param.op c.in-Param.is) refl

pub returns-in-Subst : goal.returns-in-Subst
returns-in-Subst c = rw (subst_view c.args.part.now c.in-Subst.field-0 c.in-Subst.is) refl

pub returns-in-Arith : goal.returns-in-Arith
returns-in-Arith c = rw (arith_view c.args.part.now c.in-Arith.field-0 c.in-Arith.is) refl
