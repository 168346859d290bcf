use Rattle.std.proofs.Common.{◌≡◌, ℕ, List, length, arith, subst}
use Rattle.span_text.specs.declared.span.Span.{Span}
use Rattle.arith64.specs.declared.reader.Reader.{Reader}
use Rattle.arith64.proofs.Loop.{Kept, goes_next, stopped, stopped_at_end, if_none, if_place, good_end}
use Rattle.arith64.proofs.expressions.read_expr.Goals as goal

all_read : {text : List ℕ} {operands : List Span} {at number : ℕ} {spans : List Span} {reader : Reader} → at ≡ length text → Kept text operands at number spans reader → Kept text operands (length text) number spans reader
all_read {text} {operands} {at} {number} {spans} {reader} e k = subst (λ (n : ℕ). Kept text operands n number spans reader) e k

pub returns-in-Err-clause-refused : goal.returns-in-Err-clause-refused
returns-in-Err-clause-refused c =
    let k = c.loop-at in
    rw c.fault_at.ensures (if_none _ c.args.text.now c.args.operands.now (stopped c.in-Err.stop c.args.text.now c.args.operands.now k.at k.number k.spans.now k.reader k.invariant c.loop-at-test.true c.in-Err.ensures))

pub returns-in-Err-clause-place : goal.returns-in-Err-clause-place
returns-in-Err-clause-place c =
    let k = c.loop-at in
    rw c.fault_at.ensures (if_place _ c.args.text.now c.args.operands.now (stopped c.in-Err.stop c.args.text.now c.args.operands.now k.at k.number k.spans.now k.reader k.invariant c.loop-at-test.true c.in-Err.ensures))

pub loop-at-preserved : goal.loop-at-preserved
loop-at-preserved c =
    let k = c.loop-at in
    goes_next c.args.text.now c.args.operands.now k.at k.number k.spans.now k.reader c.in-Ok.next c.spans_behind-next_number.result.0 c.spans_behind-next_number.result.1.now k.invariant c.loop-at-test.true c.in-Ok.ensures c.spans_behind-next_number.ensures.number c.spans_behind-next_number.ensures.spans

pub returns-in-Ok-read_end-clause-read : goal.returns-in-Ok-read_end-clause-read
returns-in-Ok-read_end-clause-read c =
    let e : c.loop-at.at ≡ length c.args.text.now = omega (arith, c.loop-at-test.false, c.loop-at.auto.at-end) in
    good_end c.args.text.now c.args.operands.now c.loop-at.number c.loop-at.spans.now c.loop-at.reader c.in-Ok-read_end.expression (all_read e c.loop-at.invariant) c.in-Ok-read_end.ensures

pub returns-in-Err-read_end-clause-refused : goal.returns-in-Err-read_end-clause-refused
returns-in-Err-read_end-clause-refused c =
    let e : c.loop-at.at ≡ length c.args.text.now = omega (arith, c.loop-at-test.false, c.loop-at.auto.at-end) in
    rw c.fault_at-in-Err-read_end.ensures (if_none _ c.args.text.now c.args.operands.now (stopped_at_end c.in-Err-read_end.stop c.args.text.now c.args.operands.now c.loop-at.number c.loop-at.spans.now c.loop-at.reader c.requires (all_read e c.loop-at.invariant) c.in-Err-read_end.ensures))

pub returns-in-Err-read_end-clause-place : goal.returns-in-Err-read_end-clause-place
returns-in-Err-read_end-clause-place c =
    let e : c.loop-at.at ≡ length c.args.text.now = omega (arith, c.loop-at-test.false, c.loop-at.auto.at-end) in
    rw c.fault_at-in-Err-read_end.ensures (if_place _ c.args.text.now c.args.operands.now (stopped_at_end c.in-Err-read_end.stop c.args.text.now c.args.operands.now c.loop-at.number c.loop-at.spans.now c.loop-at.reader c.requires (all_read e c.loop-at.invariant) c.in-Err-read_end.ensures))
