-- The combinators worked out, for a language whose own part is a status and the descriptors.
use Rattle.std.specs.Prelude.{◌≡◌, ℕ, true, false, [], ◌∷◌, ◌++◌, Option, Some, None, refl, codes}
use Rattle.shell_world.specs.Texts.{Text}
use Rattle.shell_world.specs.declared.description.Description.TheVariants.{Given, Output, Errors}
use Rattle.shell_world.specs.Outside.{Fds, Trace, Outside, open_at, unread, drained, written}
use Rattle.shell_world.specs.World.{start_fds, no_trace}
use Rattle.shell_world.specs.Runs.{St, Res, Ends, GoesOn, Unspecified, Do, after}
use Rattle.shell_runs.specs.Flow.{Flow, Normal, Breaks, Exits}
use Rattle.shell_runs.specs.Sequences.{if_normal, now}
use Rattle.shell_runs.specs.Loops.{loop_do}
use Rattle.shell_runs.specs.Redirecting.{redirected, bracketed, closed_run, copied_run, with_both}
use Rattle.shell_runs.specs.Shells.{substitution_text, in_shell, substitute, stage_run, piped}

pub record Own : Type 0 where
  pub status : ℕ
  pub fds : Fds

abbrev status_of : Own → ℕ
status_of o = o.status

abbrev with_status : ℕ → Own → Own
with_status n o = record o { status = n }

abbrev fds_of : Own → Fds
fds_of o = o.fds

abbrev with_fds : Fds → Own → Own
with_fds fds o = record o { fds = fds }

abbrev start : St Own
start = record {
  trace = no_trace;
  outside = record { files = []; descs = Given (codes "in") 0 ∷ Output ∷ Errors ∷ [] };
  own = record { status = 0; fds = start_fds };
}

abbrev left_by : St Own → Trace × Outside → St Own
left_by s x = record { trace = x.0; outside = x.1; own = s.own }

-- writes a text to standard output
abbrev says : Text → Do Flow Own
says text n s = Ends Normal (left_by s (written 1 s.own.fds text (s.trace, s.outside))) n

-- writes all of standard input to standard output
abbrev copies : Do Flow Own
copies n s = says (unread (open_at 0 s.own.fds s.outside) s.outside) n (with_both s (drained 0 s.own.fds s.outside) s.own)

abbrev then : Do Flow Own → Do Flow Own → Do Flow Own
then a b n s = after (a n s) (if_normal b)

abbrev shown : {X : Type 0} → Res X Own → Option (X × Text × ℕ)
shown (Ends x s n) = Some (x, s.trace.out, s.own.status)
shown (GoesOn t n) = None
shown (Unspecified t n) = None

-- NUL bytes and the newlines at the end are dropped
texts_are : substitution_text (codes "a\nb\n" ++ 0 ∷ 10 ∷ 10 ∷ []) ≡ codes "a\nb"
unfolding substitution_text
texts_are = refl

-- a substitution's text, and its status at once; what it would write to standard output isn't written
substituted_is : shown (substitute fds_of with_fds status_of with_status (then (says (codes "a\n")) (now (with_status 3))) 0 start) ≡ Some (codes "a", [], 3)
unfolding substitution_text
substituted_is = refl

-- a subshell's descriptors don't stay, its status does
shell_is : shown (then (in_shell status_of with_status (now (λ o. record { status = 2; fds = [] }))) (says (codes "b")) 0 start) ≡ Some (Normal, codes "b", 2)
shell_is = refl

-- standard output is closed around the first text alone
bracket_is : shown (then (bracketed fds_of with_fds (redirected (closed_run fds_of with_fds true 1) (λ u. says (codes "a")) (says (codes "x")))) (says (codes "b")) 0 start) ≡ Some (Normal, codes "b", 0)
bracket_is = refl

-- a closed descriptor can't be copied
failed_is : shown (bracketed fds_of with_fds (redirected (copied_run fds_of with_fds true 1 5) (λ u. says (codes "a")) (now (with_status 7))) 0 start) ≡ Some (Normal, [], 7)
failed_is = refl

-- what a stage writes is all that the next one reads; where the last stage is the current environment, its status and what follows are the same
abbrev stages : Do Flow Own
stages = stage_run fds_of with_fds (then (says (codes "a")) (now (with_status 3))) (then copies (now (with_status 4)))

subshell_is : shown (then (piped false with_fds fds_of status_of with_status stages) copies 0 start) ≡ Some (Normal, codes "ain", 4)
subshell_is = refl

current_is : shown (then (piped true with_fds fds_of status_of with_status stages) copies 0 start) ≡ Some (Normal, codes "ain", 4)
current_is = refl

-- an exit of the last stage leaves the shell only where that is the current environment
abbrev leaving : Do Flow Own
leaving = stage_run fds_of with_fds (says (codes "a")) (λ n s. Ends Exits s n)

exit_of_a_subshell_is : shown (piped false with_fds fds_of status_of with_status leaving 0 start) ≡ Some (Normal, [], 0)
exit_of_a_subshell_is = refl

exit_is : shown (piped true with_fds fds_of status_of with_status leaving 0 start) ≡ Some (Exits, [], 0)
exit_is = refl

-- two loops are left, and what stands behind them is next
abbrev leaves_two : Do Flow Own
leaves_two n s = Ends (Breaks 1) s n

abbrev forever : Do Flow Own → Do Flow Own
forever body n s = loop_do (λ o. true) status_of with_status (now (with_status 0)) body n s

two_loops_are : shown (then (forever (then (forever leaves_two) (says (codes "a")))) (says (codes "b")) 2 start) ≡ Some (Normal, codes "b", 0)
two_loops_are = refl

-- 2 turns are enough for 2 bodies
turns_are : shown (forever (says (codes "a")) 2 start) ≡ None
turns_are = refl
