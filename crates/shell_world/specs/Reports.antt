-- What a run reports.
use Rattle.std.specs.Prelude.{ℕ, ◌-◌, [], Option, Some, None}
use Rattle.shell_world.specs.declared.world.Report.{Report}
use Rattle.shell_world.specs.declared.world.End.{End}
use Rattle.shell_world.specs.declared.world.End.TheVariants as end
use Rattle.shell_world.specs.Texts.{Text, Map}
use Rattle.shell_world.specs.Outside.{Trace}
use Rattle.shell_world.specs.Runs.{Signal, Res, Ends, GoesOn, Unspecified}

-- the files are told where the run ended
abbrev pub files_at : End → Map Text → Option (Map Text)
files_at (end.Ended status) files = Some files
files_at end.GoesOn files = None
files_at end.Unspecified files = None

abbrev pub report_at : End → ℕ → Trace → Map Text → Report
report_at e turns t files = record { end = e; calls = t.calls; out = t.out; err = t.err; files = files_at e files; turns = turns }

-- how a run that was given so many turns ended, its record, its files and the turns that it used
abbrev pub report : {S : Type 0} → (S → ℕ) → ℕ → Res Signal S → Report
report status turns (Ends signal s left) = report_at (end.Ended (status s.own)) (turns - left) s.trace s.outside.files
report status turns (GoesOn t left) = report_at end.GoesOn (turns - left) t []
report status turns (Unspecified t left) = report_at end.Unspecified (turns - left) t []
