use Rattle.std.proofs.Common.{◌≡◌, ◌∙◌, drop, sym, refl, ap, true}
use Rattle.sh_syntax.specs.View.{view}
use Rattle.sh_builtins.specs.Views.{flow_of, place_of}
use Rattle.shell_runs.specs.Flow as flows
use Rattle.shell_runs.specs.Loops as loops
use Rattle.sh_meaning.specs.Commands.{in_loop, goes, script_run, level}
use Rattle.sh_meaning.specs.Own.{status_of, with_status, assigned}
use Rattle.sh_frames.specs.Payloads.{to_ended}
use Rattle.sh_frames.specs.Turns.{loop_again}
use Rattle.sh_interp.specs.Views.{stack_of, state_of, whole_of}
use Rattle.shell_world.specs.Runs.{with_own}
use Rattle.sh_frames.proofs.LoopLaws.{round_goes}
use Rattle.sh_interp.proofs.Turning.{taken, moved}
use Rattle.sh_interp.proofs.loops.one_round.Goals as goal

pub returns : goal.returns
returns c = λ z.
    taken z (λ call. loops.item_run (assigned c.args.name.now) (script_run z call (in_loop (place_of c.args.place)) (view c.args.body.now)) c.args.text (loops.items_run (assigned c.args.name.now) (script_run z call (in_loop (place_of c.args.place)) (view c.args.body.now)) (drop c.args.done c.args.texts)))
    to_ended c.args.frames.now c.begin.new.frames c.args.shell.now c.take_turn.new.shell c.assign_item.new.shell c.begin.result c.in_ok-take_turn.ensures
    (rw (round_goes z c.take_turn.new.shell.levels (stack_of c.args.frames.now) c.take_turn.new.shell.turns (with_own (state_of c.take_turn.new.shell) (assigned c.args.name.now c.args.text (whole_of c.take_turn.new.shell.own))) (place_of c.args.place) c.args.name.now (view c.args.body.now) (drop c.args.done c.args.texts))
    (rw (c.in_ok-in_loop.ensures, c.in_ok-push.ensures) at
    (moved z (λ call. script_run z call (place_of c.in_ok-in_loop.field-0) (view c.args.body.now)) to_ended c.push.new.self c.begin.new.frames c.take_turn.new.shell c.assign_item.new.shell c.assign_item.new.shell c.begin.result
    (with_own (state_of c.take_turn.new.shell) (assigned c.args.name.now c.args.text (whole_of c.take_turn.new.shell.own)))
    c.in_ok-assign_item.ensures.state c.in_ok-assign_item.ensures.bounds c.in_ok-assign_item.ensures.table (c.begin.ensures z))))
