use Rattle.std.proofs.Common.{◌≡◌, map, sym}
use Rattle.shell_runs.specs.Flow.{Normal}
use Rattle.sh_syntax.specs.View.{items_of, view, view_item}
use Rattle.sh_syntax.proofs.Views.{script_is}
use Rattle.sh_builtins.specs.Views.{place_of}
use Rattle.sh_meaning.specs.Commands.{in_shell_place, level, script_run}
use Rattle.sh_frames.specs.Payloads.{ended}
use Rattle.sh_frames.specs.Turns.{go_on}
use Rattle.sh_frames.proofs.CommandLaws.{whole_goes}
use Rattle.sh_interp.specs.Views.{setting_of, stack_of, state_of}
use Rattle.sh_interp.proofs.Turning.{ran_as}
use Rattle.sh_interp.proofs.running.run_script.Goals as goal

pub returns : goal.returns
returns c =
    let z = setting_of c.args.setting.now in
    let shell = c.args.shell.now in
    ran_as (go_on z (stack_of c.push.new.self) shell.levels (ended Normal)) (script_run z (level z shell.levels) in_shell_place (view c.args.script.now)) shell c.run_frames.new.shell c.run_frames.result
    (rw (c.in_ok-push.ensures, c.new-frames.ensures, script_is c.args.script.now, ← c.as_slice-items.ensures, ← c.in_shell.ensures)
    (whole_goes z shell.levels shell.turns (state_of shell) (place_of c.in_shell.result) (items_of (map view_item c.as_slice-items.result.now))))
    c.run_frames.ensures
