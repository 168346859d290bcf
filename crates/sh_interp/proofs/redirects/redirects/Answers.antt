use Rattle.std.specs.Prelude.{map}
use Rattle.sh_meaning.specs.Simple.{Setting}
use Rattle.sh_meaning.specs.Commands as commands
use Rattle.sh_interp.specs.Answers.{Turns}
use Rattle.sh_interp.proofs.Firsts.{onto_first}
use Rattle.shell_runs.specs.Redirecting as redirecting
use Rattle.sh_syntax.specs.View.{view_redirect, redirects_of}
use Rattle.sh_frames.specs.Payloads.{to_made}
use Rattle.sh_interp.specs.Views.{made_of}
use Rattle.sh_interp.proofs.redirects.redirects.Goals as goal

pub returns-in-len1-up : goal.returns-in-len1-up
returns-in-len1-up c =
    rw c.in-Done.is
    (onto_first (λ rs. (z : Setting) → Turns z (λ call. commands.redirects_run z call (redirects_of (map view_redirect rs)) c.in-Done.ran) to_made c.args.frames.now c.next_redirect.new.frames c.args.shell.now c.next_redirect.new.shell c.next_redirect.result)
    c.args.redirects.now c.first-item.result c.in-len1-up.len_at_least c.first-item.is c.next_redirect.ensures)
