-- A job that is read and run ends as its report says.
use Rattle.std.proofs.Common.{◌≡◌, ℕ, ◌≤◌, List, length, sym, ap, subst, ◌∙◌, arith, lit≤}
use Rattle.shell_world.specs.declared.world.Report.{Report}
use Rattle.bash_tree.specs.Shape.{Script}
use Rattle.bash_meaning.specs.Meaning.{report as bash_report}
use Rattle.sh_grammar.specs.Shape as sh
use Rattle.sh_grammar.specs.Spelling.{IsErrorAt}
use Rattle.sh_grammar.specs.Spelling.{Reads as ShReads}
use Rattle.sh_meaning.specs.Running.{report as sh_report}
use Rattle.world_json.specs.declared.job.Job.{Job}
use Rattle.bash2sh.specs.declared.language.Language.{Language}
use Rattle.bash2sh.specs.declared.language.Language.TheVariants.{Bash, Sh}
use Rattle.bash2sh.specs.declared.status.Status.{Status}
use Rattle.bash2sh.specs.declared.status.Status.TheVariants as status
use Rattle.bash2sh.specs.declared.messages.Refusal.TheVariants.{ShSyntax}
use Rattle.bash2sh.specs.Answers.{refused_line}
use Rattle.bash2sh.specs.Sinks.{Sinks, Line}
use Rattle.bash2sh.specs.Spelling.{Reads}
use Rattle.bash2sh.specs.Jobs.{script_limit, OnReport, OnBashJob, OnShJob}
use Rattle.bash2sh.proofs.Meaning.{bash_specified}
use Rattle.span_text.specs.Places.{line_of, column_of}
use Rattle.bash2sh.proofs.Spelled.{reads_taken}

-- ---- the script of a job is within its limit

limits : (k : Language) → script_limit k ≤ 16777216
limits Bash = lit≤ tt
limits Sh = lit≤ tt

pub script_fits : (k : Language) (most n : ℕ) → most ≡ script_limit k → n ≤ most → n ≤ 16777216
script_fits k most n e le = let b = limits k in omega arith

-- ---- what was reported

pub bash_job : (job : Job) (s : Script) (r : Report) (b a : Sinks) (st : Status) → Reads job.script s → r ≡ bash_report job.world s → OnReport b a r st → OnBashJob job b a st
bash_job job s r b a status.Done h e o = (s, h, subst (λ (x : Report). OnReport b a x status.Done) e o)
bash_job job s r b a status.GoesOn h e o = (s, h, subst (λ (x : Report). OnReport b a x status.GoesOn) e o)
bash_job job s r b a status.Unspecified h e o =
    absurd (bash_specified job.world s (reads_taken job.script s h) (ap (λ (x : Report). x.«end») (sym e) ∙ o.0))
bash_job job s r b a status.WriteFault h e o = (s, h, subst (λ (x : Report). OnReport b a x status.WriteFault) e o)
bash_job job s r b a status.OutOfMemory h e o = o
bash_job job s r b a status.Usage h e o = absurd o
bash_job job s r b a status.Refused h e o = absurd o
bash_job job s r b a status.ReadFault h e o = absurd o
bash_job job s r b a status.BadWorld h e o = absurd o
bash_job job s r b a status.TooLong h e o = absurd o

pub sh_job : (job : Job) (s : sh.Script) (r : Report) (b a : Sinks) (st : Status) → ShReads job.script s → r ≡ sh_report job.world s → OnReport b a r st → OnShJob job b a st
sh_job job s r b a status.Done h e o = (s, h, subst (λ (x : Report). OnReport b a x status.Done) e o)
sh_job job s r b a status.GoesOn h e o = (s, h, subst (λ (x : Report). OnReport b a x status.GoesOn) e o)
sh_job job s r b a status.Unspecified h e o = (s, h, subst (λ (x : Report). OnReport b a x status.Unspecified) e o)
sh_job job s r b a status.WriteFault h e o = (s, h, subst (λ (x : Report). OnReport b a x status.WriteFault) e o)
sh_job job s r b a status.OutOfMemory h e o = o
sh_job job s r b a status.Usage h e o = absurd o
sh_job job s r b a status.Refused h e o = absurd o
sh_job job s r b a status.ReadFault h e o = absurd o
sh_job job s r b a status.BadWorld h e o = absurd o
sh_job job s r b a status.TooLong h e o = absurd o

-- a text of sh that was refused where it stops being one; shown is the text in which the place was counted
pub sh_refused : (job : Job) (text shown : List ℕ) (at line column : ℕ) (b a : Sinks) → text ≡ job.script → shown ≡ job.script → ((x : sh.Script) → ShReads text x → ⊥) → IsErrorAt text at
    → line ≡ line_of shown at → column ≡ column_of shown at → a.held ≡ b.held → Line b a (refused_line ShSyntax line column) → OnShJob job b a status.Refused
sh_refused job text shown at line column b a is seen none place l c held said = (
  at,
  (subst (λ (t : List ℕ). (x : sh.Script) → ShReads t x → ⊥) is none, subst (λ (t : List ℕ). IsErrorAt t at) is place),
  held,
  subst (λ (t : List ℕ). Line b a (refused_line ShSyntax (line_of t at) (column_of t at))) seen
      (subst (λ (n : ℕ). Line b a (refused_line ShSyntax n (column_of shown at))) l
      (subst (λ (n : ℕ). Line b a (refused_line ShSyntax line n)) c said)),
)

-- ---- the place where a text stops being sh lies in it

pub error_within : (text : List ℕ) (place : ℕ) → IsErrorAt text place → place ≤ length text
error_within text place p = let is = p.is in omega (arith, is)
