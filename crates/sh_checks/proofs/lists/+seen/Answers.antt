use Rattle.std.proofs.Common.{◌∙◌, true}
use Rattle.std.specs.Prelude.{map}
use Rattle.sh_meaning.specs.Lists.{quote_seen, has_no_part, seen_in, seen_in_op, list_seen}
use Rattle.sh_syntax.specs.View.{view_part, view_op, view_param, parts_of}
use Rattle.sh_syntax.proofs.Views.{as_is_is, length_is}
use Rattle.sh_checks.proofs.PartViews.{plain_view, exact_view, double_view, tilde_view, param_view, subst_view, arith_view, fill_view, trim_view}
use Rattle.sh_checks.proofs.Counting.{both_seen, part_more}
use Rattle.sh_checks.proofs.lists.+seen.Goals as goal

pub seen_in_op-returns-in-Fill : goal.seen_in_op-returns-in-Fill
seen_in_op-returns-in-Fill n c = rw (fill_view c.args.op.now c.in-Fill.test c.in-Fill.colon c.in-Fill.word c.in-Fill.is) (rw c.as_slice.ensures at c.seen_in.ensures)

pub seen_in_op-returns-in-Trim : goal.seen_in_op-returns-in-Trim
seen_in_op-returns-in-Trim n c = rw (trim_view c.args.op.now c.in-Trim.suffix c.in-Trim.longest c.in-Trim.pattern c.in-Trim.is) (rw c.as_slice-in-Trim.ensures at c.seen_in-in-Trim.ensures)

pub seen_in_op-returns-in-Plain : goal.seen_in_op-returns-in-Plain
seen_in_op-returns-in-Plain n c = rw (c.in-Plain.is, as_is_is) c.unseen.ensures

pub seen_in_op-returns-in-Length : goal.seen_in_op-returns-in-Length
seen_in_op-returns-in-Length n c = rw (c.in-Length.is, length_is) c.unseen-in-Length.ensures

pub seen_in_part-returns-in-Plain : goal.seen_in_part-returns-in-Plain
seen_in_part-returns-in-Plain n c = rw (plain_view c.args.part.now c.in-Plain.field-0 c.in-Plain.is) c.unseen.ensures

pub seen_in_part-returns-in-Exact : goal.seen_in_part-returns-in-Exact
seen_in_part-returns-in-Exact n c = rw (exact_view c.args.part.now c.in-Exact.text c.in-Exact.is) cc

pub seen_in_part-returns-in-Double : goal.seen_in_part-returns-in-Double
seen_in_part-returns-in-Double n c =
    rw (double_view c.args.part.now c.in-Double.parts c.in-Double.is)
    (both_seen c.with_both.result c.quote_seen-in-Double.result c.seen_in.result (quote_seen (has_no_part (parts_of (map view_part c.in-Double.parts)))) (seen_in true (parts_of (map view_part c.in-Double.parts))) c.with_both.ensures
    (rw (c.has_no_part.ensures, c.as_slice.ensures) at c.quote_seen-in-Double.ensures)
    (rw c.as_slice-in-Double.ensures at c.seen_in.ensures))

pub seen_in_part-returns-in-Tilde : goal.seen_in_part-returns-in-Tilde
seen_in_part-returns-in-Tilde n c = rw (tilde_view c.args.part.now c.in-Tilde.is) c.unseen-in-Tilde.ensures

pub seen_in_part-returns-in-Param : goal.seen_in_part-returns-in-Param
seen_in_part-returns-in-Param n c =
    rw (param_view c.args.part.now c.in-Param.param c.in-Param.op c.in-Param.is)
    (both_seen c.with_both-in-Param.result c.list_seen.result c.seen_in_op.result (list_seen c.args.quoted (view_param c.in-Param.param)) (seen_in_op c.args.quoted (view_op c.in-Param.op)) c.with_both-in-Param.ensures c.list_seen.ensures c.seen_in_op.ensures)

pub seen_in_part-returns-in-Subst : goal.seen_in_part-returns-in-Subst
seen_in_part-returns-in-Subst n c = rw (subst_view c.args.part.now c.in-Subst.field-0 c.in-Subst.is) c.unseen-in-Subst.ensures

pub seen_in_part-returns-in-Arith : goal.seen_in_part-returns-in-Arith
seen_in_part-returns-in-Arith n c = rw (arith_view c.args.part.now c.in-Arith.field-0 c.in-Arith.is) c.unseen-in-Arith.ensures

pub seen_in-loop-part-preserved : goal.seen_in-loop-part-preserved
seen_in-loop-part-preserved n c =
    rw (c.with_both-seen.ensures, c.seen_in_part.ensures)
    (part_more c.args.quoted c.loop-part.seen c.args.parts.now c.loop-part.part-index c.part-item.result c.loop-part-test.true c.part-item.is ∙ c.loop-part.invariant)
