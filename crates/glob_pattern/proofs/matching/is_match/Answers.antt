use Rattle.std.proofs.Common.{sym, ◌∙◌}
use Rattle.glob_pattern.proofs.Greedy.{State-run, takes_next, back_next, lost_next, used_next, end_next}
use Rattle.glob_pattern.proofs.matching.is_match.Goals as goal

pub bytes-preserved-in-Run : goal.bytes-preserved-in-Run
bytes-preserved-in-Run c =
    rw c.behind-ahead.ensures
    (State-run c.args.pieces.now c.bytes.ahead.now c.bytes.last.now c.args.text.now c.bytes.rest.now c.bytes.left.now c.bytes.starred _ (sym c.step_of.ensures ∙ c.in-Run.is) c.bytes.invariant)

pub returns-in-empty : goal.returns-in-empty
returns-in-empty c =
    c.is_all_runs.ensures ∙ sym (end_next c.args.pieces.now c.bytes.ahead.now c.bytes.last.now c.args.text.now c.bytes.rest.now c.bytes.left.now c.bytes.starred c.in-empty.len_below c.bytes.invariant)

pub bytes-preserved-in-Takes : goal.bytes-preserved-in-Takes
bytes-preserved-in-Takes c =
    rw (c.behind-ahead-in-Takes.ensures, c.behind-rest.ensures)
    (takes_next c.args.pieces.now c.bytes.ahead.now c.bytes.last.now c.args.text.now c.bytes.rest.now c.bytes.left.now c.bytes.starred c.in-len1-up.len_at_least (sym c.step_of.ensures ∙ c.in-Takes.is) c.bytes.invariant)

pub returns-then-not-starred : goal.returns-then-not-starred
returns-then-not-starred c =
    sym (lost_next c.args.pieces.now c.bytes.ahead.now c.bytes.last.now c.args.text.now c.bytes.rest.now c.bytes.left.now c.bytes.starred c.in-len1-up.len_at_least (sym c.step_of.ensures ∙ c.in-Refuses.is) c.if-not-starred.true c.bytes.invariant)

pub returns-then-is_empty : goal.returns-then-is_empty
returns-then-is_empty c =
    sym (used_next c.args.pieces.now c.bytes.ahead.now c.bytes.last.now c.args.text.now c.bytes.rest.now c.bytes.left.now c.bytes.starred c.in-len1-up.len_at_least (sym c.step_of.ensures ∙ c.in-Refuses.is) c.if-not-starred.false (sym c.is_empty.ensures ∙ c.if-is_empty.true) c.bytes.invariant)

pub bytes-preserved : goal.bytes-preserved
bytes-preserved c =
    rw c.behind-left.ensures
    (back_next c.args.pieces.now c.bytes.ahead.now c.bytes.last.now c.args.text.now c.bytes.rest.now c.bytes.left.now c.bytes.starred c.in-len1-up.len_at_least (sym c.step_of.ensures ∙ c.in-Refuses.is) c.if-not-starred.false (sym c.is_empty.ensures ∙ c.if-is_empty.false) c.bytes.invariant)
