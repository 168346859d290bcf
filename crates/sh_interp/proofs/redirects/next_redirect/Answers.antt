use Rattle.std.specs.Prelude.{map}
use Rattle.sh_syntax.specs.declared.tree.Redirect.{out-Redirect}
use Rattle.sh_syntax.specs.View.{view_operator, view_redirect, view_word, redirects_of}
use Rattle.sh_syntax.proofs.Views.{redirect_is}
use Rattle.sh_meaning.specs.Commands.{parts_run, level}
use Rattle.sh_meaning.specs.Expanded.{nothing}
use Rattle.sh_meaning.specs.Expanding.{First, checked}
use Rattle.sh_meaning.specs.Redirecting.{fd_of, redirect_mode, redirect_run}
use Rattle.sh_frames.proofs.CommandLaws.{redirects_go}
use Rattle.sh_interp.specs.Views.{stack_of, state_of}
use Rattle.sh_interp.proofs.redirects.next_redirect.Goals as goal

pub returns : goal.returns
returns c = λ z.
    let d = c.args.shell.now.levels in
    let n = c.args.shell.now.turns in
    let s = state_of c.args.shell.now in
    let first = out-Redirect c.args.first.now in
    let op = view_operator first.op in
    let w = view_word first.word in
    rw (
      redirect_is c.args.first.now,
      redirects_go z d (stack_of c.args.frames.now) n s (redirect_run c.args.ran (fd_of first.fd op) op w (checked w (parts_run z (level z d) (redirect_mode op) First w (nothing c.args.ran))) n s) (redirects_of (map view_redirect c.args.rest.now)),
      ← c.in_ok-push.ensures,
      ← c.fd_of-fd.ensures,
    )
    (c.one.ensures z)
