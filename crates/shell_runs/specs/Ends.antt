-- How a whole run ends, and what it reports.
use Rattle.std.specs.Prelude.{ℕ, ◌-◌, []}
use Rattle.shell_world.specs.declared.world.Report.{Report}
use Rattle.shell_world.specs.declared.world.End.TheVariants as end
use Rattle.shell_world.specs.Runs.{Res, Ends, GoesOn, Unspecified}
use Rattle.shell_world.specs.Ends.{Outcome, Ended, Going, Unknown}
use Rattle.shell_world.specs.Reports.{report_at}
use Rattle.shell_runs.specs.Flow.{Flow}

abbrev pub outcome : {S : Type 0} → (S → ℕ) → Res Flow S → Outcome
outcome status (Ends flow s left) = Ended s.trace s.outside.files (status s.own)
outcome status (GoesOn t left) = Going t
outcome status (Unspecified t left) = Unknown t

-- of a run that was given so many turns
abbrev pub report : {S : Type 0} → (S → ℕ) → ℕ → Res Flow S → Report
report status turns (Ends flow s left) = report_at (end.Ended (status s.own)) (turns - left) s.trace s.outside.files
report status turns (GoesOn t left) = report_at end.GoesOn (turns - left) t []
report status turns (Unspecified t left) = report_at end.Unspecified (turns - left) t []
