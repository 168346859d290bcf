-- Redirections around a run (POSIX XCU 2.7). What is opened gets the next number of a description, and the descriptors are as before behind the run.
use Rattle.std.specs.Prelude.{ℕ, Option, Some, None}
use Rattle.shell_world.specs.Texts.{nth, with_nth}
use Rattle.shell_world.specs.Outside.{Fds, Outside, index_at}
use Rattle.shell_world.specs.Opening.{Opened, Refused, Opens}
use Rattle.shell_world.specs.Runs.{St, Ends, Do, after, with_own}

-- how redirections end, with what goes on to what stands behind them
pub data Made (X : Type 0) : Type 0 where
  Done : X → Made X
  Failed : Made X

-- the outside, and a part of the language's own
abbrev pub with_both : {S : Type 0} → St S → Outside → S → St S
with_both s o own = record { trace = s.trace; outside = o; own = own }

-- a descriptor is open for a description, or closed
abbrev pub with_fd : ℕ → Option ℕ → Fds → Fds
with_fd fd to fds = with_nth fd to fds

-- a descriptor is to be open for what was opened
abbrev pub opened_run : {X S : Type 0} → (S → Fds) → (Fds → S → S) → X → ℕ → Opened → Do (Made X) S
opened_run fds with_fds x fd (Refused fault) n s = Ends Failed s n
opened_run fds with_fds x fd (Opens i o) n s = Ends (Done x) (with_both s o (with_fds (with_fd fd (Some i) (fds s.own)) s.own)) n

-- a descriptor is to share the description of another one, which is to be open (2.7.5, 2.7.6)
abbrev pub shared_run : {X S : Type 0} → (S → Fds) → (Fds → S → S) → X → ℕ → Option ℕ → Do (Made X) S
shared_run fds with_fds x fd None n s = Ends Failed s n
shared_run fds with_fds x fd (Some i) n s = Ends (Done x) (with_own s (with_fds (with_fd fd (Some i) (fds s.own)) s.own)) n

abbrev pub copied_run : {X S : Type 0} → (S → Fds) → (Fds → S → S) → X → ℕ → ℕ → Do (Made X) S
copied_run fds with_fds x fd source n s = shared_run fds with_fds x fd (index_at (nth source (fds s.own))) n s

abbrev pub closed_run : {X S : Type 0} → (S → Fds) → (Fds → S → S) → X → ℕ → Do (Made X) S
closed_run fds with_fds x fd n s = Ends (Done x) (with_own s (with_fds (with_fd fd None (fds s.own)) s.own)) n

-- the next redirection
abbrev pub if_made : {X S : Type 0} → (X → Do (Made X) S) → Made X → Do (Made X) S
if_made k (Done x) n s = k x n s
if_made k Failed n s = Ends Failed s n

-- the command behind its redirections, or what is done where one failed
abbrev pub made_or : {X Y S : Type 0} → (X → Do Y S) → Do Y S → Made X → Do Y S
made_or command failed (Done x) n s = command x n s
made_or command failed Failed n s = failed n s

abbrev pub redirected : {X Y S : Type 0} → Do (Made X) S → (X → Do Y S) → Do Y S → Do Y S
redirected redirects command failed n s = after (redirects n s) (made_or command failed)

-- behind the command
abbrev pub fds_back : {X S : Type 0} → (Fds → S → S) → Fds → X → Do X S
fds_back with_fds before x n s = Ends x (with_own s (with_fds before s.own)) n

-- the descriptors are as before behind the run
abbrev pub bracketed : {X S : Type 0} → (S → Fds) → (Fds → S → S) → Do X S → Do X S
bracketed fds with_fds run n s = after (run n s) (fds_back with_fds (fds s.own))
