use Rattle.std.proofs.Common.{true, false, refl, sym, ◌∙◌}
use Rattle.sh_syntax.proofs.Views.{as_is_is, length_is, arith_is}
use Rattle.sh_checks.proofs.PartViews.{plain_view, exact_view, double_view, tilde_view, param_view, subst_view, arith_view, fill_view, trim_view}
use Rattle.sh_checks.proofs.Loops.{uses_next, word_uses_next}
use Rattle.sh_checks.proofs.names.+depends.Goals as goal

pub depends_op-returns-in-Plain : goal.depends_op-returns-in-Plain
depends_op-returns-in-Plain t c = rw (c.in-Plain.is, as_is_is) refl

pub depends_op-returns-in-Length : goal.depends_op-returns-in-Length
depends_op-returns-in-Length t c = rw (c.in-Length.is, length_is) refl

pub depends_op-returns-in-Fill : goal.depends_op-returns-in-Fill
depends_op-returns-in-Fill t c = rw (fill_view c.args.op.now c.in-Fill.test c.in-Fill.colon c.in-Fill.word c.in-Fill.is) (rw c.as_slice.ensures at c.depends.ensures)

pub depends_op-returns-in-Trim : goal.depends_op-returns-in-Trim
depends_op-returns-in-Trim t c = rw (trim_view c.args.op.now c.in-Trim.suffix c.in-Trim.longest c.in-Trim.pattern c.in-Trim.is) (rw c.as_slice-in-Trim.ensures at c.depends-in-Trim.ensures)

pub depends_part-returns-in-Plain : goal.depends_part-returns-in-Plain
depends_part-returns-in-Plain t c = rw (plain_view c.args.part.now c.in-Plain.field-0 c.in-Plain.is) refl

pub depends_part-returns-in-Exact : goal.depends_part-returns-in-Exact
depends_part-returns-in-Exact t c = rw (exact_view c.args.part.now c.in-Exact.field-0 c.in-Exact.is) refl

pub depends_part-returns-in-Double : goal.depends_part-returns-in-Double
depends_part-returns-in-Double t c = rw (double_view c.args.part.now c.in-Double.parts c.in-Double.is) (rw c.as_slice.ensures at c.depends.ensures)

pub depends_part-returns-in-Tilde : goal.depends_part-returns-in-Tilde
depends_part-returns-in-Tilde t c = rw (tilde_view c.args.part.now c.in-Tilde.is) c.is_among.ensures

pub depends_part-returns-then-is_used : goal.depends_part-returns-then-is_used
depends_part-returns-then-is_used t c = rw (param_view c.args.part.now c.in-Param.param c.in-Param.op c.in-Param.is, sym c.is_used.ensures ∙ c.if-is_used.true) refl

pub depends_part-returns-else-is_used : goal.depends_part-returns-else-is_used
depends_part-returns-else-is_used t c = rw (param_view c.args.part.now c.in-Param.param c.in-Param.op c.in-Param.is, sym c.is_used.ensures ∙ c.if-is_used.false) c.depends_op.ensures

pub depends_part-returns-in-Subst : goal.depends_part-returns-in-Subst
depends_part-returns-in-Subst t c = rw (subst_view c.args.part.now c.in-Subst.field-0 c.in-Subst.is) refl

pub depends_part-returns-then-branch : goal.depends_part-returns-then-branch
depends_part-returns-then-branch t c = rw (arith_view c.args.part.now c.in-Arith.arith c.in-Arith.is, arith_is c.in-Arith.arith, sym c.in_ok-is_used_in_sum-in-Arith.ensures ∙ c.if-branch.true) refl

pub depends_part-returns-else-branch : goal.depends_part-returns-else-branch
depends_part-returns-else-branch t c = rw (arith_view c.args.part.now c.in-Arith.arith c.in-Arith.is, arith_is c.in-Arith.arith, sym c.in_ok-is_used_in_sum-in-Arith.ensures ∙ c.if-branch.false) (rw c.as_slice-in-Arith.ensures at c.depends_words.ensures)

pub depends-returns-then-branch : goal.depends-returns-then-branch
depends-returns-then-branch t c =
    sym (uses_next c.args.names.now c.args.parts.now c.loop-part.part-index c.part-item.result true c.loop-part-test.true c.part-item.is (sym c.if-branch.true ∙ c.in_ok-depends_part.ensures))
    ∙ c.loop-part.invariant

pub depends_words-returns-then-branch : goal.depends_words-returns-then-branch
depends_words-returns-then-branch t c =
    sym (word_uses_next c.args.names.now c.args.words.now c.loop-word.word-index c.word-item.result true c.loop-word-test.true c.word-item.is (sym c.if-branch.true ∙ (rw c.as_slice.ensures at c.in_ok-depends.ensures)))
    ∙ c.loop-word.invariant

pub depends_words-loop-word-preserved : goal.depends_words-loop-word-preserved
depends_words-loop-word-preserved t c =
    sym (word_uses_next c.args.names.now c.args.words.now c.loop-word.word-index c.word-item.result false c.loop-word-test.true c.word-item.is (sym c.if-branch.false ∙ (rw c.as_slice.ensures at c.in_ok-depends.ensures)))
    ∙ c.loop-word.invariant
