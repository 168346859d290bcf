use Rattle.std.proofs.Common.{◌≡◌, ◌∙◌, drop, sym, refl, ap, true}
use Rattle.sh_syntax.specs.View.{view}
use Rattle.sh_builtins.specs.Views.{flow_of, place_of}
use Rattle.shell_runs.specs.Flow as flows
use Rattle.shell_runs.specs.Loops as loops
use Rattle.sh_meaning.specs.Commands.{in_loop, goes, script_run, level}
use Rattle.sh_meaning.specs.Own.{status_of, with_status, assigned}
use Rattle.sh_frames.specs.Payloads.{to_ended}
use Rattle.sh_frames.specs.Turns.{loop_again}
use Rattle.sh_interp.specs.Views.{stack_of, state_of, whole_of}
use Rattle.sh_interp.proofs.loops.judged.Goals as goal

pub returns-then-goes : goal.returns-then-goes
returns-then-goes c = λ z.
    let e : goes c.args.parts.until (whole_of c.args.shell.now.own) ≡ true = sym (c.goes.ensures (whole_of c.args.shell.now.own) refl) ∙ c.if-goes.true in
    rw e (c.begin_body.ensures z)
