use Rattle.std.proofs.Common.{◌≡◌, ◌∙◌, drop, sym, refl, ap, true}
use Rattle.sh_syntax.specs.View.{view}
use Rattle.sh_builtins.specs.Views.{flow_of, place_of}
use Rattle.shell_runs.specs.Flow as flows
use Rattle.shell_runs.specs.Loops as loops
use Rattle.sh_meaning.specs.Commands.{in_loop, goes, script_run, level}
use Rattle.sh_meaning.specs.Own.{status_of, with_status, assigned}
use Rattle.sh_frames.specs.Payloads.{to_ended}
use Rattle.sh_frames.specs.Turns.{loop_again}
use Rattle.sh_interp.specs.Views.{stack_of, state_of, whole_of}
use Rattle.sh_interp.proofs.Heads.{next_is}
use Rattle.sh_interp.proofs.loops.next_round.Goals as goal

pub returns : goal.returns
returns c = λ z.
    rw (next_is c.args.texts c.args.done c.at.result.now c.at.ensures) (rw (c.in_ok-text.ensures, c.bytes.ensures) at (c.one_round.ensures z))
