-- Loops taken apart before frames.
use Rattle.std.proofs.Common.{◌≡◌, ℕ, zero, suc, Bool, List, ◌∷◌, refl, ap, ◌∙◌}
use Rattle.shell_world.specs.Texts.{Text}
use Rattle.shell_world.specs.Runs.{St, Do, after}
use Rattle.shell_runs.specs.Flow.{Flow, Normal, Breaks, Continues, Returns, Exits}
use Rattle.shell_runs.specs.Sequences.{take_turn}
use Rattle.shell_runs.specs.Loops.{body_over, body_run, item_over, test_over, items_run, loop_from, loop_round}
use Rattle.sh_grammar.specs.Shape.{Script}
use Rattle.sh_meaning.specs.Own.{Own, status_of, with_status, assigned}
use Rattle.sh_meaning.specs.Simple.{Setting}
use Rattle.sh_meaning.specs.Commands.{in_loop, goes, script_run, level}
use Rattle.sh_meaning.specs.builtins.Places.{Place}
use Rattle.sh_frames.specs.Payloads.{to_ended}
use Rattle.sh_frames.specs.Frames as frames
use Rattle.sh_frames.specs.Frames.{Frame, on_ended}
use Rattle.sh_frames.specs.Turns.{go_on, loop_again}
use Rattle.sh_frames.specs.Exits.{loop_exit, exit_or}
use Rattle.sh_frames.proofs.Sequence.{assoc}

-- ---- how loops are left

module _ {S : Type 0} (n : ℕ) (s : St S) where
  pub body_by : (status : S → ℕ) (next : ℕ → Do Flow S) (flow : Flow) → body_over status next flow n s ≡ exit_or (loop_exit flow) (next (status s.own)) n s
  body_by status next Normal = refl
  body_by status next (Breaks zero) = refl
  body_by status next (Breaks (suc m)) = refl
  body_by status next (Continues zero) = refl
  body_by status next (Continues (suc m)) = refl
  body_by status next Returns = refl
  body_by status next Exits = refl

  pub item_by : (next : Do Flow S) (flow : Flow) → item_over next flow n s ≡ exit_or (loop_exit flow) next n s
  item_by next Normal = refl
  item_by next (Breaks zero) = refl
  item_by next (Breaks (suc m)) = refl
  item_by next (Continues zero) = refl
  item_by next (Continues (suc m)) = refl
  item_by next Returns = refl
  item_by next Exits = refl

  pub test_by : (go : S → Bool) (status : S → ℕ) (with_status : ℕ → S → S) (body : Do Flow S) (next : ℕ → Do Flow S) (last : ℕ) (flow : Flow) → ¬ (flow ≡ Normal) →
      test_over go status with_status body next last flow n s ≡ exit_or (loop_exit flow) (take_turn (next last)) n s
  test_by go status with_status body next last Normal h = absurd (h refl)
  test_by go status with_status body next last (Breaks zero) h = refl
  test_by go status with_status body next last (Breaks (suc m)) h = refl
  test_by go status with_status body next last (Continues zero) h = refl
  test_by go status with_status body next last (Continues (suc m)) h = refl
  test_by go status with_status body next last Returns h = refl
  test_by go status with_status body next last Exits h = refl

-- ---- loops before frames

module _ (z : Setting) (d : ℕ) (fs : List Frame) (n : ℕ) (s : St Own) where
  -- a loop that is a round and the loop again
  pub loop_goes : (place : Place) (until : Bool) (test body : Script) (last : ℕ) →
      loop_from (goes until) status_of with_status (script_run z (level z d) (in_loop place) test) (script_run z (level z d) (in_loop place) body) last n s
      ≡ loop_round (goes until) status_of with_status (script_run z (level z d) (in_loop place) test) (script_run z (level z d) (in_loop place) body) (loop_again z (level z d) place until test body) last n s →
      after (loop_again z (level z d) place until test body last n s) (to_ended (go_on z fs) d)
      ≡ after (script_run z (level z d) (in_loop place) test n s) (to_ended (go_on z (on_ended (frames.loop_test place until test body last) ∷ fs)) d)
  loop_goes place until test body last unrolled =
      ap (λ r. after r (to_ended (go_on z fs) d)) unrolled
      ∙ assoc (script_run z (level z d) (in_loop place) test n s)
      (test_over (goes until) status_of with_status (script_run z (level z d) (in_loop place) body) (loop_again z (level z d) place until test body) last) (to_ended (go_on z fs) d)

  pub body_goes : (place : Place) (until : Bool) (test body : Script) →
      after (body_run status_of (script_run z (level z d) (in_loop place) body) (loop_again z (level z d) place until test body) n s) (to_ended (go_on z fs) d)
      ≡ after (script_run z (level z d) (in_loop place) body n s) (to_ended (go_on z (on_ended (frames.loop_body place until test body) ∷ fs)) d)
  body_goes place until test body =
      assoc (script_run z (level z d) (in_loop place) body n s) (body_over status_of (loop_again z (level z d) place until test body)) (to_ended (go_on z fs) d)

  -- the body for one text, whose variable is assigned already
  pub round_goes : (place : Place) (name : Text) (body : Script) (texts : List Text) →
      after (after (script_run z (level z d) (in_loop place) body n s) (item_over (items_run (assigned name) (script_run z (level z d) (in_loop place) body) texts))) (to_ended (go_on z fs) d)
      ≡ after (script_run z (level z d) (in_loop place) body n s) (to_ended (go_on z (on_ended (frames.round place name body texts) ∷ fs)) d)
  round_goes place name body texts =
      assoc (script_run z (level z d) (in_loop place) body n s) (item_over (items_run (assigned name) (script_run z (level z d) (in_loop place) body) texts)) (to_ended (go_on z fs) d)
