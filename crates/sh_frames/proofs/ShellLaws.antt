-- Shell environments of their own, and calls, taken apart before frames.
use Rattle.std.proofs.Common.{◌≡◌, ℕ, suc, List, ◌∷◌, length}
use Rattle.shell_world.specs.Texts.{Text}
use Rattle.shell_world.specs.Runs.{St, Res, after, with_own}
use Rattle.shell_runs.specs.Flow.{Flow}
use Rattle.shell_runs.specs.Sequences.{if_normal, now}
use Rattle.shell_runs.specs.Calls.{call_over, called_run}
use Rattle.shell_runs.specs.Shells.{buffered, substituted, shell_over, stage_over, pipeline_over}
use Rattle.sh_grammar.specs.Shape.{subst, Script, Stages, Command}
use Rattle.sh_meaning.specs.Own.{Own, status_of, with_status, fds_of, with_fds, with_arguments, parameters_back}
use Rattle.sh_meaning.specs.Modes.{Mode}
use Rattle.sh_meaning.specs.Expanded.{Expanded}
use Rattle.sh_meaning.specs.Expanding.{Where, subst_over}
use Rattle.sh_meaning.specs.Simple.{Setting}
use Rattle.sh_meaning.specs.Commands.{in_shell_place, in_body, or_zero, negated, part_run, command_run, piped_run, script_run, level}
use Rattle.sh_frames.specs.Payloads.{to_ended, to_word}
use Rattle.sh_frames.specs.Frames as frames
use Rattle.sh_frames.specs.Frames.{Frame, on_ended}
use Rattle.sh_frames.specs.Turns.{go_on}
use Rattle.sh_frames.proofs.Sequence.{assoc, assoc3}

module _ (z : Setting) (d : ℕ) (fs : List Frame) (n : ℕ) (s : St Own) where
  pub substitution_goes : (mode : Mode) (place : Where) (script : Script) (e : Expanded) →
      after (part_run z (level z d) mode place (subst script) e n s) (to_word (go_on z fs) d)
      ≡ after (or_zero script (script_run z (level z d) in_shell_place script) n (buffered fds_of with_fds s)) (to_ended (go_on z (on_ended (frames.substitution (length s.outside.descs) s.own mode e) ∷ fs)) d)
  substitution_goes mode place script e =
      assoc3 (or_zero script (script_run z (level z d) in_shell_place script) n (buffered fds_of with_fds s))
      (substituted status_of with_status (length s.outside.descs) s.own) (subst_over mode e) (to_word (go_on z fs) d)

  pub subshell_goes : (script : Script) →
      after (after (script_run z (level z d) in_shell_place script n s) (shell_over status_of with_status s.own)) (to_ended (go_on z fs) d)
      ≡ after (script_run z (level z d) in_shell_place script n s) (to_ended (go_on z (on_ended (frames.shell s.own) ∷ fs)) d)
  subshell_goes script = assoc (script_run z (level z d) in_shell_place script n s) (shell_over status_of with_status s.own) (to_ended (go_on z fs) d)

  pub stage_goes : (c : Command) (ss : Stages) →
      after (after (command_run z (level z d) in_shell_place c n (buffered fds_of with_fds s)) (stage_over fds_of with_fds (length s.outside.descs) s.own (piped_run z (level z d) ss))) (to_ended (go_on z fs) d)
      ≡ after (command_run z (level z d) in_shell_place c n (buffered fds_of with_fds s)) (to_ended (go_on z (on_ended (frames.stage (length s.outside.descs) s.own ss) ∷ fs)) d)
  stage_goes c ss =
      assoc (command_run z (level z d) in_shell_place c n (buffered fds_of with_fds s)) (stage_over fds_of with_fds (length s.outside.descs) s.own (piped_run z (level z d) ss)) (to_ended (go_on z fs) d)

  -- whatever the stages are
  pub pipeline_goes : (r : Res Flow Own) →
      after (after r (pipeline_over z.world.latitude.last_current with_fds fds_of status_of with_status s.own)) (to_ended (go_on z fs) d)
      ≡ after r (to_ended (go_on z (on_ended (frames.pipeline s.own) ∷ fs)) d)
  pipeline_goes r = assoc r (pipeline_over z.world.latitude.last_current with_fds fds_of status_of with_status s.own) (to_ended (go_on z fs) d)

  pub negated_goes : (r : Res Flow Own) →
      after (after r (if_normal (now negated))) (to_ended (go_on z fs) d)
      ≡ after r (to_ended (go_on z (on_ended frames.negation ∷ fs)) d)
  negated_goes r = assoc r (if_normal (now negated)) (to_ended (go_on z fs) d)

  -- ---- calls

  pub call_goes : (body : Command) (args : List Text) →
      after (called_run (with_arguments args) parameters_back (level z (suc d) body) n s) (to_ended (go_on z fs) (suc d))
      ≡ after (command_run z (level z d) in_body body n (with_own s (with_arguments args s.own))) (to_ended (go_on z (on_ended (frames.called s.own.params (suc d)) ∷ fs)) d)
  call_goes body args = assoc (command_run z (level z d) in_body body n (with_own s (with_arguments args s.own))) (call_over parameters_back s.own) (to_ended (go_on z fs) (suc d))
