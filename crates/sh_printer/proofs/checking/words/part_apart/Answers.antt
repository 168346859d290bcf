use Rattle.std.proofs.Common.{refl, arith}
use Rattle.sh_printer.specs.Checks.{command_check_weight, command_holds, word_check_weight, word_holds}
use Rattle.sh_printer.proofs.WordChecks.{splitting}
use Rattle.sh_printer.proofs.PartViews.{plain_view, exact_view, double_view, tilde_view, param_view, subst_view, arith_view}
use Rattle.sh_printer.proofs.checking.words.part_apart.Goals as goal

pub returns-in-Plain : goal.returns-in-Plain
unfolding word_holds word_check_weight command_holds command_check_weight
returns-in-Plain c = rw (plain_view c.args.part.now c.in-Plain.text c.in-Plain.is) (splitting _ _ 1 _ c.known.result (rw c.bytes.ensures at c.plain_fits.ensures) (omega arith) c.known.ensures)

pub returns-in-Exact : goal.returns-in-Exact
unfolding word_holds word_check_weight command_holds command_check_weight
returns-in-Exact c = rw (exact_view c.args.part.now c.in-Exact.text c.in-Exact.is) (splitting _ _ 1 _ c.known-in-Exact.result (rw c.bytes-in-Exact.ensures at c.exact_fits.ensures) (omega arith) c.known-in-Exact.ensures)

pub returns-in-Double : goal.returns-in-Double
unfolding word_holds word_check_weight command_holds command_check_weight
returns-in-Double c = rw (double_view c.args.part.now c.in-Double.parts c.in-Double.is) (splitting _ _ _ _ c.double_apart.result refl (omega arith) (rw c.as_slice.ensures at c.double_apart.ensures))

pub returns-in-Tilde : goal.returns-in-Tilde
unfolding word_holds word_check_weight command_holds command_check_weight
returns-in-Tilde c = rw (tilde_view c.args.part.now c.in-Tilde.is) (splitting _ _ 1 _ c.known-in-Tilde.result refl (omega arith) c.known-in-Tilde.ensures)

pub returns-in-Param : goal.returns-in-Param
unfolding word_holds word_check_weight command_holds command_check_weight
returns-in-Param c = rw (param_view c.args.part.now c.in-Param.param c.in-Param.op c.in-Param.is) c.param_apart.ensures

pub returns-in-Subst : goal.returns-in-Subst
unfolding word_holds word_check_weight command_holds command_check_weight
returns-in-Subst c = rw (subst_view c.args.part.now c.in-Subst.script c.in-Subst.is) (splitting _ _ _ _ c.subst_apart.result refl (omega arith) c.subst_apart.ensures)

pub returns-in-Arith : goal.returns-in-Arith
unfolding word_holds word_check_weight command_holds command_check_weight
returns-in-Arith c = rw (arith_view c.args.part.now c.in-Arith.arith c.in-Arith.is) (splitting _ _ _ _ c.arith_apart.result refl (omega arith) c.arith_apart.ensures)
