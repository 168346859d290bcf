use Rattle.std.proofs.Common.{◌≡◌, List, ℕ, decimal, sym, ap, ◌∙◌, Result, Ok, Err}
use Rattle.serde_json.specs.View.{view, items_view}
use Rattle.world_json.specs.declared.fault.JobFault.{JobFault}
use Rattle.world_json.specs.Judging.{Judged, IsJudged, within, items_of}
use Rattle.world_json.proofs.Judging.{exit, item_good, item_bad, items_end, same_judged}
use Rattle.world_json.proofs.fields.items.Goals as goal

at_index : {X : Type 0} (name : List ℕ) (n : ℕ) (j : Judged X) (r : Result X JobFault) → name ≡ decimal n → IsJudged (within name j) r → IsJudged (within (decimal n) j) r
at_index name n j r e h = same_judged _ _ r (ap (λ t. within t j) (sym e)) h

pub returns-in_err-within : goal.returns-in_err-within
returns-in_err-within g c =
    let name = c.as_bytes.ensures.value ∙ c.format-index.ensures.text ∙ ap decimal c.len.ensures in
    let judged = g.T.Item.judged (view c.value-item.result) in
    let bad = at_index {X = g.row.T.Denot} _ _ judged (Err c.in_err-within.field-0.0) name (c.in_err-within.ensures judged c.judge.ensures) in
    let all = item_bad g.T.Item.judged c.loop-value.list c.loop-value.value-index _ c.value-item.result _ c.in_err-within.field-0.0 c.loop-value-test.true c.value-item.is bad c.loop-value.invariant in
    exit _ c.in_err-within.field-0.0 c.from_residual.result c.from_residual.ensures.1 (same_judged _ _ (Err c.in_err-within.field-0.0) (ap (λ vs. items_of g.T.Item.judged 0 (items_view vs)) (sym c.deref-value-items.ensures.value)) all)

pub loop-value-preserved : goal.loop-value-preserved
loop-value-preserved g c =
    let name = c.as_bytes.ensures.value ∙ c.format-index.ensures.text ∙ ap decimal c.len.ensures in
    let judged = g.T.Item.judged (view c.value-item.result) in
    let good = at_index {X = g.row.T.Denot} _ _ judged (Ok c.in_ok-within.field-0) name (c.in_ok-within.ensures judged c.judge.ensures) in
    item_good g.T.Item.judged c.loop-value.list _ c.loop-value.value-index _ c.value-item.result _ _ c.loop-value-test.true c.value-item.is good c.in_ok-push.ensures.ok c.loop-value.invariant

pub returns : goal.returns
returns g c =
    ap (λ vs. items_of g.T.Item.judged 0 (items_view vs)) (sym c.deref-value-items.ensures.value) ∙ items_end g.T.Item.judged c.loop-value.list c.loop-value.value-index _ _ c.loop-value-test.false c.loop-value.invariant
