use Rattle.std.proofs.Common.{◌≡◌, ◌∙◌, drop, sym, refl, ap, true}
use Rattle.sh_syntax.specs.View.{view}
use Rattle.sh_builtins.specs.Views.{flow_of, place_of}
use Rattle.shell_runs.specs.Flow as flows
use Rattle.shell_runs.specs.Loops as loops
use Rattle.sh_meaning.specs.Commands.{in_loop, goes, script_run, level}
use Rattle.sh_meaning.specs.Own.{status_of, with_status, assigned}
use Rattle.sh_frames.specs.Payloads.{to_ended}
use Rattle.sh_frames.specs.Turns.{loop_again}
use Rattle.sh_interp.specs.Views.{stack_of, state_of, whole_of}
use Rattle.sh_frames.proofs.LoopLaws.{body_by}
use Rattle.sh_interp.proofs.loops.again.Goals as goal

pub returns-in-None : goal.returns-in-None
returns-in-None c = λ z.
    rw (body_by c.args.shell.now.turns (state_of c.args.shell.now) status_of (loop_again z (level z c.args.shell.now.levels) (place_of c.args.parts.place) c.args.parts.until (view c.args.parts.test.now) (view c.args.parts.body.now)) (flow_of c.args.flow), ← c.in-None.ensures)
    (c.begin_loop.ensures z)
