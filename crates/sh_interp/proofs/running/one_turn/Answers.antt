use Rattle.std.proofs.Common.{◌≡◌, []}
use Rattle.std.proofs.lemmas.Result.{err_from_is_err_and}
use Rattle.sh_frames.specs.Turns.{go_on}
use Rattle.sh_interp.specs.Views.{payload_of, setting_of}
use Rattle.sh_interp.proofs.Turning.{halted}
use Rattle.sh_interp.proofs.running.one_turn.Goals as goal

pub returns-in_err-last-in-None : goal.returns-in_err-last-in-None
returns-in_err-last-in-None c =
    let p = err_from_is_err_and c.from_residual.result c.from_residual.ensures.1 in
    let z = setting_of c.args.setting.now in
    rw (c.in-None.ensures, p.1, p.2)
    (halted z (go_on z [] c.args.shell.now.levels (payload_of c.args.payload)) c.pop.new.self c.args.shell.now c.args.shell.now c.in_err-last-in-None.field-0.0
    (c.in_err-last-in-None.ensures z))

pub returns-in_ok-last-in-None : goal.returns-in_ok-last-in-None
returns-in_ok-last-in-None c = rw c.in-None.ensures (c.in_ok-last-in-None.ensures (setting_of c.args.setting.now))
