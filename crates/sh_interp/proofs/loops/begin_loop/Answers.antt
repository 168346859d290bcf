use Rattle.std.proofs.Common.{◌≡◌, ◌∙◌, drop, sym, refl, ap, true}
use Rattle.sh_syntax.specs.View.{view}
use Rattle.sh_builtins.specs.Views.{flow_of, place_of}
use Rattle.shell_runs.specs.Flow as flows
use Rattle.shell_runs.specs.Loops as loops
use Rattle.sh_meaning.specs.Commands.{in_loop, goes, script_run, level}
use Rattle.sh_meaning.specs.Own.{status_of, with_status, assigned}
use Rattle.sh_frames.specs.Payloads.{to_ended}
use Rattle.sh_frames.specs.Turns.{loop_again}
use Rattle.sh_interp.specs.Views.{stack_of, state_of, whole_of}
use Rattle.sh_frames.proofs.LoopLaws.{loop_goes}
use Rattle.sh_meaning.proofs.WholeRuns.{script_loop_unrolls}
use Rattle.sh_interp.proofs.loops.begin_loop.Goals as goal

pub returns : goal.returns
returns c = λ z.
    rw (loop_goes z c.args.shell.now.levels (stack_of c.args.frames.now) c.args.shell.now.turns (state_of c.args.shell.now) (place_of c.args.parts.place) c.args.parts.until (view c.args.parts.test.now) (view c.args.parts.body.now) c.args.last
    (script_loop_unrolls z c.args.shell.now.levels (in_loop (place_of c.args.parts.place)) c.args.parts.until (view c.args.parts.test.now) (view c.args.parts.body.now) c.args.last c.args.shell.now.turns (state_of c.args.shell.now)))
    (rw (c.in_ok-place.ensures, c.in_ok-push.ensures) at (c.begin.ensures z))
