use Rattle.std.proofs.Common.{◌≡◌, refl, sym}
use Rattle.sh_interp.specs.Views.{setting_of}
use Rattle.sh_interp.proofs.turns.made_turn.Goals as goal

pub returns-in-Redirects : goal.returns-in-Redirects
returns-in-Redirects c = rw c.in-Redirects.is (c.redirects.ensures (setting_of c.args.setting.now))

pub returns-in-Job : goal.returns-in-Job
returns-in-Job c = rw c.in-Job.is c.job.ensures
