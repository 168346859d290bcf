use Rattle.std.proofs.Common.{◌≤◌, ◌∙◌, sym, subst, List, ℕ, length}
use Rattle.bash_tree.specs.View.{view}
use Rattle.bash2sh.specs.Spelling.{Reads}
use Rattle.bash2sh.proofs.Reporting.{bash_job}
use Rattle.bash2sh.proofs.Translating.{place_within}
use Rattle.bash2sh.proofs.jobs.run_bash.Goals as goal

pub returns-in-Ok-run : goal.returns-in-Ok-run
returns-in-Ok-run g c =
    bash_job c.args.job (view c.in-Ok.tree) c.in-Ok-run.report _ _ c.write_report.result
    (subst (λ (t : List ℕ). Reads t (view c.in-Ok.tree)) c.bytes.ensures c.in-Ok.ensures.found) c.in-Ok-run.ensures c.write_report.ensures

pub place_of-requires-clause-within : goal.place_of-requires-clause-within
place_of-requires-clause-within g c =
    let h = rw c.in-Err-NotYet.field-0-is at c.in-Err-NotYet.ensures in
    let p = place_within c.bytes.result.now c.in-Err-NotYet.at h.place in
    rw c.in-Err-NotYet.at-is (subst (λ (t : List ℕ). c.in-Err-NotYet.at ≤ length t) (c.bytes.ensures ∙ sym c.bytes-in-Err-NotYet.ensures) p)
