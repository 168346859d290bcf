use Rattle.std.proofs.Common.{◌≡◌, ◌≤◌, ◌++◌, ◌∷◌, [], List, ℕ, Some, ap, ◌∙◌, arith}
use Rattle.serde_json.specs.Data.{Data, depth}
use Rattle.serde_json.specs.Read.{read}
use Rattle.serde_json.specs.Written.{has_float, compact_text}
use Rattle.world_json.proofs.Shapes.{IsPlain, report_plain}
use Rattle.world_json.proofs.report.report_text.Goals as goal

plain : (d e : Data) → d ≡ e → IsPlain 4 e → IsPlain 4 d
plain d e is h = record { whole = ap has_float is ∙ h.whole; flat = omega (arith, h.flat, ap depth is) }

within : (m : ℕ) → m ≤ 4 → m ≤ 127
within m h = omega arith

pub returns-clause-text : goal.returns-clause-text
returns-clause-text c =
    let p = plain _ _ c.in_ok-value.ensures (report_plain c.args.report.now) in
    let whole = c.in_ok-to_vec.ensures.text p.whole ∙ ap compact_text c.in_ok-value.ensures in
    c.in_ok-append.ensures.ok ∙ ap (λ (l : List ℕ). l ++ 10 ∷ []) (c.from_vec-text.ensures ∙ whole)

pub returns-clause-reads_back : goal.returns-clause-reads_back
returns-clause-reads_back c =
    let p = plain _ _ c.in_ok-value.ensures (report_plain c.args.report.now) in
    let back = ap read c.from_vec-text.ensures ∙ c.in_ok-to_vec.ensures.reads_back (within _ p.flat) ∙ ap (λ (d : Data). Some d) c.in_ok-value.ensures in
    (c.from_vec-text.result, c.in_ok-append.ensures.ok, back)
