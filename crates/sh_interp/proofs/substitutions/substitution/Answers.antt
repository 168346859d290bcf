use Rattle.sh_syntax.specs.View.{view}
use Rattle.sh_expansion.specs.Views.{mode_of, word_of}
use Rattle.sh_frames.proofs.ShellLaws.{substitution_goes}
use Rattle.sh_interp.specs.Views.{stack_of, state_of}
use Rattle.sh_interp.proofs.substitutions.substitution.Goals as goal

pub returns : goal.returns
returns c = λ z place.
    rw (substitution_goes z c.args.shell.now.levels (stack_of c.args.frames.now) c.args.shell.now.turns (state_of c.args.shell.now) (mode_of c.args.mode) place (view c.args.script.now) (word_of c.args.word))
    (rw (c.in_ok-desc.ensures.state, c.in_ok-desc.ensures.bounds.0, c.in_ok-desc.ensures.bounds.1, c.in_ok-desc.ensures.table, c.in_shell.ensures, c.in_ok-push.ensures, c.in_ok-desc.ensures.number, c.in_ok-desc.ensures.before)
    at (c.begin_or_zero.ensures z))
