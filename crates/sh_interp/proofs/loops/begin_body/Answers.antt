use Rattle.std.proofs.Common.{◌≡◌, ◌∙◌, drop, sym, refl, ap, true}
use Rattle.sh_syntax.specs.View.{view}
use Rattle.sh_builtins.specs.Views.{flow_of, place_of}
use Rattle.shell_runs.specs.Flow as flows
use Rattle.shell_runs.specs.Loops as loops
use Rattle.sh_meaning.specs.Commands.{in_loop, goes, script_run, level}
use Rattle.sh_meaning.specs.Own.{status_of, with_status, assigned}
use Rattle.sh_frames.specs.Payloads.{to_ended}
use Rattle.sh_frames.specs.Turns.{loop_again}
use Rattle.sh_interp.specs.Views.{stack_of, state_of, whole_of}
use Rattle.sh_frames.proofs.LoopLaws.{body_goes}
use Rattle.sh_interp.proofs.Turning.{taken}
use Rattle.sh_interp.proofs.loops.begin_body.Goals as goal

pub returns : goal.returns
returns c = λ z.
    taken z (λ call. loops.body_run status_of (script_run z call (in_loop (place_of c.args.parts.place)) (view c.args.parts.body.now)) (loop_again z call (place_of c.args.parts.place) c.args.parts.until (view c.args.parts.test.now) (view c.args.parts.body.now)))
    to_ended c.args.frames.now c.begin.new.frames c.args.shell.now c.take_turn.new.shell c.take_turn.new.shell c.begin.result c.in_ok-take_turn.ensures
    (rw (body_goes z c.take_turn.new.shell.levels (stack_of c.args.frames.now) c.take_turn.new.shell.turns (state_of c.take_turn.new.shell) (place_of c.args.parts.place) c.args.parts.until (view c.args.parts.test.now) (view c.args.parts.body.now))
    (rw (c.in_ok-place.ensures, c.in_ok-push.ensures) at (c.begin.ensures z)))
