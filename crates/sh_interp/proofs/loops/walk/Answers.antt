use Rattle.std.proofs.Common.{◌≡◌, ◌∙◌, drop, sym, refl, ap, true}
use Rattle.sh_syntax.specs.View.{view}
use Rattle.sh_builtins.specs.Views.{flow_of, place_of}
use Rattle.shell_runs.specs.Flow as flows
use Rattle.shell_runs.specs.Loops as loops
use Rattle.sh_meaning.specs.Commands.{in_loop, goes, script_run, level}
use Rattle.sh_meaning.specs.Own.{status_of, with_status, assigned}
use Rattle.sh_frames.specs.Payloads.{to_ended}
use Rattle.sh_frames.specs.Turns.{loop_again}
use Rattle.sh_interp.specs.Views.{stack_of, state_of, whole_of}
use Rattle.sh_interp.proofs.Heads.{walks}
use Rattle.sh_interp.proofs.loops.walk.Goals as goal

pub returns : goal.returns
returns c = λ z.
    rw (walks c.args.name.now (script_run z (level z c.args.shell.now.levels) (in_loop (place_of c.args.place)) (view c.args.body.now)) c.args.args.texts c.args.shell.now.turns (state_of c.args.shell.now) (λ e. c.if-len-eq0.false (c.len.ensures ∙ e)))
    (c.next_round.ensures z)
