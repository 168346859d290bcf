use Rattle.std.proofs.Common.{refl, ◌∙◌, arith}
use Rattle.sh_printer.specs.Checks.{command_check_weight, command_holds, word_check_weight, word_holds}
use Rattle.sh_printer.proofs.PartViews.{plain_view, exact_view, double_view, tilde_view, param_view, subst_view, arith_view}
use Rattle.sh_printer.proofs.checking.words.front_check.Goals as goal

pub returns-in-Tilde-clause-holds : goal.returns-in-Tilde-clause-holds
unfolding word_holds word_check_weight command_holds command_check_weight
returns-in-Tilde-clause-holds c = rw (tilde_view c.args.first.now c.in-Tilde.is) c.behind_tilde.ensures

pub returns-in-Plain-clause-holds : goal.returns-in-Plain-clause-holds
unfolding word_holds word_check_weight command_holds command_check_weight
returns-in-Plain-clause-holds c = rw (plain_view c.args.first.now c.in-Plain.text c.in-Plain.is) (rw c.bytes.ensures at c.plain_front_fits.ensures)

pub returns-in-Exact-clause-holds : goal.returns-in-Exact-clause-holds
unfolding word_holds word_check_weight command_holds command_check_weight
returns-in-Exact-clause-holds c = c.part_check.ensures.holds ∙ rw (exact_view c.args.first.now c.in-Exact.field-0 c.in-Exact.is) refl

pub returns-in-Exact-clause-weight : goal.returns-in-Exact-clause-weight
unfolding word_holds word_check_weight command_holds command_check_weight
returns-in-Exact-clause-weight c = omega (arith, c.part_check.ensures.weight)

pub returns-in-Double-clause-holds : goal.returns-in-Double-clause-holds
unfolding word_holds word_check_weight command_holds command_check_weight
returns-in-Double-clause-holds c = c.part_check-in-Double.ensures.holds ∙ rw (double_view c.args.first.now c.in-Double.field-0 c.in-Double.is) refl

pub returns-in-Double-clause-weight : goal.returns-in-Double-clause-weight
unfolding word_holds word_check_weight command_holds command_check_weight
returns-in-Double-clause-weight c = omega (arith, c.part_check-in-Double.ensures.weight)

pub returns-in-Param-clause-holds : goal.returns-in-Param-clause-holds
unfolding word_holds word_check_weight command_holds command_check_weight
returns-in-Param-clause-holds c = c.part_check-in-Param.ensures.holds ∙ rw (param_view c.args.first.now c.in-Param.param c.in-Param.op c.in-Param.is) refl

pub returns-in-Param-clause-weight : goal.returns-in-Param-clause-weight
unfolding word_holds word_check_weight command_holds command_check_weight
returns-in-Param-clause-weight c = omega (arith, c.part_check-in-Param.ensures.weight)

pub returns-in-Subst-clause-holds : goal.returns-in-Subst-clause-holds
unfolding word_holds word_check_weight command_holds command_check_weight
returns-in-Subst-clause-holds c = c.part_check-in-Subst.ensures.holds ∙ rw (subst_view c.args.first.now c.in-Subst.field-0 c.in-Subst.is) refl

pub returns-in-Subst-clause-weight : goal.returns-in-Subst-clause-weight
unfolding word_holds word_check_weight command_holds command_check_weight
returns-in-Subst-clause-weight c = omega (arith, c.part_check-in-Subst.ensures.weight)

pub returns-in-Arith-clause-holds : goal.returns-in-Arith-clause-holds
unfolding word_holds word_check_weight command_holds command_check_weight
returns-in-Arith-clause-holds c = c.part_check-in-Arith.ensures.holds ∙ rw (arith_view c.args.first.now c.in-Arith.field-0 c.in-Arith.is) refl

pub returns-in-Arith-clause-weight : goal.returns-in-Arith-clause-weight
unfolding word_holds word_check_weight command_holds command_check_weight
returns-in-Arith-clause-weight c = omega (arith, c.part_check-in-Arith.ensures.weight)
