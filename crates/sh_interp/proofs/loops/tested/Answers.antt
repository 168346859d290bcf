use Rattle.std.proofs.Common.{◌≡◌, ◌∙◌, drop, sym, refl, ap, true}
use Rattle.sh_syntax.specs.View.{view}
use Rattle.sh_builtins.specs.Views.{flow_of, place_of}
use Rattle.shell_runs.specs.Flow as flows
use Rattle.shell_runs.specs.Loops as loops
use Rattle.sh_meaning.specs.Commands.{in_loop, goes, script_run, level}
use Rattle.sh_meaning.specs.Own.{status_of, with_status, assigned}
use Rattle.sh_frames.specs.Payloads.{to_ended}
use Rattle.sh_frames.specs.Turns.{loop_again}
use Rattle.sh_interp.specs.Views.{stack_of, state_of, whole_of}
use Rattle.sh_frames.proofs.LoopLaws.{test_by}
use Rattle.sh_interp.proofs.Turning.{taken, not_normal}
use Rattle.sh_interp.proofs.loops.tested.Goals as goal

pub returns-in-Normal : goal.returns-in-Normal
returns-in-Normal c = λ z. rw c.in-Normal.is (c.judged.ensures z)

pub returns-in_ok-take_turn-in-None : goal.returns-in_ok-take_turn-in-None
returns-in_ok-take_turn-in-None c = λ z.
    rw (test_by c.args.shell.now.turns (state_of c.args.shell.now) (goes c.args.parts.until) status_of with_status (script_run z (level z c.args.shell.now.levels) (in_loop (place_of c.args.parts.place)) (view c.args.parts.body.now)) (loop_again z (level z c.args.shell.now.levels) (place_of c.args.parts.place) c.args.parts.until (view c.args.parts.test.now) (view c.args.parts.body.now)) c.args.last (flow_of c.args.flow) (not_normal c.args.flow c.in_default.not-Normal), ← c.in-None.ensures)
    (taken z (λ call. loop_again z call (place_of c.args.parts.place) c.args.parts.until (view c.args.parts.test.now) (view c.args.parts.body.now) c.args.last)
    to_ended c.args.frames.now c.begin_loop.new.frames c.args.shell.now c.take_turn.new.shell c.take_turn.new.shell c.begin_loop.result c.in_ok-take_turn-in-None.ensures
    (c.begin_loop.ensures z))
