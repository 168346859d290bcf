use Rattle.std.proofs.Common.{refl, sym, ap, ◌∙◌}
use Rattle.sh_printing.specs.Printing.{parts_open}
use Rattle.sh_printer.proofs.PartViews.{plain_view, exact_view, double_view, tilde_view, param_view, subst_view, arith_view, fill_opens, trim_opens}
use Rattle.sh_printer.proofs.Openings.{parts_stop, parts_more, words_stop, words_more}
use Rattle.sh_syntax.proofs.Views.{as_is_is, length_is, word_is}
use Rattle.sh_printer.proofs.opening.+opening.Goals as goal

pub op_opens-returns-in-Fill : goal.op_opens-returns-in-Fill
op_opens-returns-in-Fill n c = (rw c.as_slice.ensures at c.parts_open.ensures) ∙ sym (fill_opens c.args.op.now c.in-Fill.test c.in-Fill.colon c.in-Fill.word c.in-Fill.is)

pub op_opens-returns-in-Trim : goal.op_opens-returns-in-Trim
op_opens-returns-in-Trim n c = (rw c.as_slice-in-Trim.ensures at c.parts_open-in-Trim.ensures) ∙ sym (trim_opens c.args.op.now c.in-Trim.suffix c.in-Trim.longest c.in-Trim.pattern c.in-Trim.is)

pub op_opens-returns-in-Plain : goal.op_opens-returns-in-Plain
op_opens-returns-in-Plain n c = rw (c.in-Plain.is, as_is_is) refl

pub op_opens-returns-in-Length : goal.op_opens-returns-in-Length
op_opens-returns-in-Length n c = rw (c.in-Length.is, length_is) refl

pub part_opens-returns-in-Subst : goal.part_opens-returns-in-Subst
part_opens-returns-in-Subst n c = rw (subst_view c.args.part.now c.in-Subst.field-0 c.in-Subst.is) refl

pub part_opens-returns-in-Double : goal.part_opens-returns-in-Double
part_opens-returns-in-Double n c = rw (double_view c.args.part.now c.in-Double.parts c.in-Double.is) (rw c.as_slice.ensures at c.parts_open.ensures)

pub part_opens-returns-in-Param : goal.part_opens-returns-in-Param
part_opens-returns-in-Param n c = rw (param_view c.args.part.now c.in-Param.param c.in-Param.op c.in-Param.is) c.op_opens.ensures

pub part_opens-returns-in-Arith : goal.part_opens-returns-in-Arith
part_opens-returns-in-Arith n c = rw (arith_view c.args.part.now c.in-Arith.arith c.in-Arith.is) (rw c.as_slice-in-Arith.ensures at c.words_open.ensures)

pub part_opens-returns-in-Plain : goal.part_opens-returns-in-Plain
part_opens-returns-in-Plain n c = rw (plain_view c.args.part.now c.in-Plain.field-0 c.in-Plain.is) refl

pub part_opens-returns-in-Exact : goal.part_opens-returns-in-Exact
part_opens-returns-in-Exact n c = rw (exact_view c.args.part.now c.in-Exact.field-0 c.in-Exact.is) refl

pub part_opens-returns-in-Tilde : goal.part_opens-returns-in-Tilde
part_opens-returns-in-Tilde n c = rw (tilde_view c.args.part.now c.in-Tilde.is) refl

pub parts_open-returns-then-part_opens : goal.parts_open-returns-then-part_opens
parts_open-returns-then-part_opens n c = sym (parts_stop c.args.parts.now c.loop-part.part-index c.part-item.result c.loop-part-test.true c.part-item.is (sym c.part_opens.ensures ∙ c.if-part_opens.true)) ∙ c.loop-part.invariant

pub parts_open-loop-part-preserved : goal.parts_open-loop-part-preserved
parts_open-loop-part-preserved n c = parts_more c.args.parts.now c.loop-part.part-index c.part-item.result c.loop-part-test.true c.part-item.is (sym c.part_opens.ensures ∙ c.if-part_opens.false) ∙ c.loop-part.invariant

pub words_open-returns-then-parts_open : goal.words_open-returns-then-parts_open
words_open-returns-then-parts_open n c = sym (words_stop c.args.words.now c.loop-word.word-index c.word-item.result c.loop-word-test.true c.word-item.is (ap parts_open (word_is c.word-item.result) ∙ sym (rw c.as_slice.ensures at c.parts_open.ensures) ∙ c.if-parts_open.true)) ∙ c.loop-word.invariant

pub words_open-loop-word-preserved : goal.words_open-loop-word-preserved
words_open-loop-word-preserved n c = words_more c.args.words.now c.loop-word.word-index c.word-item.result c.loop-word-test.true c.word-item.is (ap parts_open (word_is c.word-item.result) ∙ sym (rw c.as_slice.ensures at c.parts_open.ensures) ∙ c.if-parts_open.false) ∙ c.loop-word.invariant
