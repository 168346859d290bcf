-- What comes of a job: its script is run in its world, and the report is written.
use Rattle.std.specs.Prelude.{◌≡◌, ℕ, List, codes}
use Rattle.span_text.specs.Streams.{Rose, Grows, Falls}
use Rattle.span_text.specs.Places.{line_of, column_of}
use Rattle.shell_world.specs.declared.world.Report.{Report}
use Rattle.shell_world.specs.declared.world.End.{End}
use Rattle.shell_world.specs.declared.world.End.TheVariants as end
use Rattle.shell_world.specs.Texts.{Text}
use Rattle.bash_tree.specs.Shape.{Script}
use Rattle.bash_meaning.specs.Meaning.{report as bash_report}
use Rattle.sh_grammar.specs.Shape as sh
use Rattle.sh_grammar.specs.Spelling.{IsErrorAt}
use Rattle.sh_grammar.specs.Spelling.{Reads as ShReads}
use Rattle.sh_meaning.specs.Running.{report as sh_report}
use Rattle.world_json.specs.declared.job.Job.{Job}
use Rattle.world_json.specs.declared.fault.Reason.{Reason}
use Rattle.world_json.specs.Judging.{Good, Bad}
use Rattle.world_json.specs.Jobs.{job_of}
use Rattle.world_json.specs.Reports.{report_text_of}
use Rattle.bash2sh.specs.declared.language.Language.{Language}
use Rattle.bash2sh.specs.declared.language.Language.TheVariants.{Bash, Sh}
use Rattle.bash2sh.specs.declared.messages.Refusal.TheVariants as refusal
use Rattle.bash2sh.specs.declared.status.Status.{Status}
use Rattle.bash2sh.specs.declared.status.Status.TheVariants as status
use Rattle.bash2sh.specs.Answers.{limit, large_limit, refused_line, bad_world_line}
use Rattle.bash2sh.specs.Spelling.{Reads}
use Rattle.bash2sh.specs.Translation.{IsRefused}
use Rattle.bash2sh.specs.Sinks.{Sinks, Line}

-- how many bytes the script of a job may have
abbrev pub script_limit : Language → ℕ
script_limit Bash = limit
script_limit Sh = large_limit

-- the status of a run that ended so, once its report is written
abbrev pub status_of : End → Status
status_of (end.Ended n) = status.Done
status_of end.GoesOn = status.GoesOn
status_of end.Unspecified = status.Unspecified

abbrev pub IsEnded : End → Type 0
IsEnded (end.Ended n) = Unit {0}
IsEnded end.GoesOn = ⊥
IsEnded end.Unspecified = ⊥

-- the report was written, and nothing was said
abbrev pub Written : Sinks → Sinks → Report → Type 0
Written b a r = Grows b.held a.held (report_text_of r) × (a.said ≡ b.said)

-- how it ends once there is a report
abbrev pub OnReport : Sinks → Sinks → Report → Status → Type 0
OnReport b a r status.Done = IsEnded r.«end» × Written b a r
OnReport b a r status.GoesOn = (r.«end» ≡ end.GoesOn) × Written b a r
OnReport b a r status.Unspecified = (r.«end» ≡ end.Unspecified) × Written b a r
OnReport b a r status.WriteFault = Falls b.held a.held (report_text_of r) × Rose b.write_faults a.write_faults × Line b a (codes "bash2sh: write fault\n")
OnReport b a r status.OutOfMemory = (a.held ≡ b.held) × Line b a (codes "bash2sh: out of memory\n")
OnReport b a r status.Usage = ⊥
OnReport b a r status.Refused = ⊥
OnReport b a r status.ReadFault = ⊥
OnReport b a r status.BadWorld = ⊥
OnReport b a r status.TooLong = ⊥

-- ---- scripts of Bash

-- the text spells a script of Bash, and this is the report of its run in the world
abbrev pub RunsBash : Job → Sinks → Sinks → Status → Type 0
RunsBash job b a s = (script : Script) × Reads job.script script × OnReport b a (bash_report job.world script) s

abbrev pub OnBashJob : Job → Sinks → Sinks → Status → Type 0
OnBashJob job b a status.Done = RunsBash job b a status.Done
OnBashJob job b a status.GoesOn = RunsBash job b a status.GoesOn
-- a Bash script always has a meaning
OnBashJob job b a status.Unspecified = ⊥
OnBashJob job b a status.WriteFault = RunsBash job b a status.WriteFault
OnBashJob job b a status.OutOfMemory = (a.held ≡ b.held) × Line b a (codes "bash2sh: out of memory\n")
OnBashJob job b a status.Refused =
    (place : ℕ) × IsRefused job.script place × (a.held ≡ b.held) × Line b a (refused_line refusal.NotYet (line_of job.script place) (column_of job.script place))
OnBashJob job b a status.Usage = ⊥
OnBashJob job b a status.ReadFault = ⊥
OnBashJob job b a status.BadWorld = ⊥
OnBashJob job b a status.TooLong = ⊥

-- ---- scripts of sh

-- the text spells a script of sh, and this is the report of its run in the world
abbrev pub RunsSh : Job → Sinks → Sinks → Status → Type 0
RunsSh job b a s = (script : sh.Script) × ShReads job.script script × OnReport b a (sh_report job.world script) s

-- the text spells no script of sh, and here it stops being one
abbrev pub IsRefusedSh : Text → ℕ → Type 0
IsRefusedSh text place = ((script : sh.Script) → ShReads text script → ⊥) × IsErrorAt text place

abbrev pub OnShJob : Job → Sinks → Sinks → Status → Type 0
OnShJob job b a status.Done = RunsSh job b a status.Done
OnShJob job b a status.GoesOn = RunsSh job b a status.GoesOn
OnShJob job b a status.Unspecified = RunsSh job b a status.Unspecified
OnShJob job b a status.WriteFault = RunsSh job b a status.WriteFault
OnShJob job b a status.OutOfMemory = (a.held ≡ b.held) × Line b a (codes "bash2sh: out of memory\n")
OnShJob job b a status.Refused =
    (place : ℕ) × IsRefusedSh job.script place × (a.held ≡ b.held) × Line b a (refused_line refusal.ShSyntax (line_of job.script place) (column_of job.script place))
OnShJob job b a status.Usage = ⊥
OnShJob job b a status.ReadFault = ⊥
OnShJob job b a status.BadWorld = ⊥
OnShJob job b a status.TooLong = ⊥

-- how it ends once there is a job
abbrev pub OnGoodJob : Language → Job → Sinks → Sinks → Status → Type 0
OnGoodJob Bash job b a s = OnBashJob job b a s
OnGoodJob Sh job b a s = OnShJob job b a s

-- how it ends once the bytes are there
abbrev pub OnJob : Language → Sinks → Sinks → List ℕ → Status → Type 0
OnJob language b a bytes status.BadWorld =
    (pointer : List ℕ) × (r : Reason) × (job_of (script_limit language) bytes ≡ Bad pointer r) × (a.held ≡ b.held) × Line b a (bad_world_line pointer r)
OnJob language b a bytes status.OutOfMemory = (a.held ≡ b.held) × Line b a (codes "bash2sh: out of memory\n")
OnJob language b a bytes status.Done = (job : Job) × (job_of (script_limit language) bytes ≡ Good job) × OnGoodJob language job b a status.Done
OnJob language b a bytes status.GoesOn = (job : Job) × (job_of (script_limit language) bytes ≡ Good job) × OnGoodJob language job b a status.GoesOn
OnJob language b a bytes status.Unspecified = (job : Job) × (job_of (script_limit language) bytes ≡ Good job) × OnGoodJob language job b a status.Unspecified
OnJob language b a bytes status.WriteFault = (job : Job) × (job_of (script_limit language) bytes ≡ Good job) × OnGoodJob language job b a status.WriteFault
OnJob language b a bytes status.Refused = (job : Job) × (job_of (script_limit language) bytes ≡ Good job) × OnGoodJob language job b a status.Refused
OnJob language b a bytes status.Usage = ⊥
OnJob language b a bytes status.ReadFault = ⊥
OnJob language b a bytes status.TooLong = ⊥
