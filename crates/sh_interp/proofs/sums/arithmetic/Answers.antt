use Rattle.sh_syntax.specs.View.{view_arith}
use Rattle.sh_syntax.proofs.Views.{arith_is}
use Rattle.sh_expansion.specs.Views.{mode_of, word_of}
use Rattle.sh_frames.proofs.WordLaws.{arithmetic_goes}
use Rattle.sh_interp.specs.Views.{stack_of, state_of}
use Rattle.sh_interp.proofs.sums.arithmetic.Goals as goal

pub returns : goal.returns
returns c = λ z place.
    rw (
      arithmetic_goes z c.args.shell.now.levels (stack_of c.args.frames.now) c.args.shell.now.turns (state_of c.args.shell.now) (mode_of c.args.mode) place (view_arith c.args.sum.now).0 (view_arith c.args.sum.now).1 (word_of c.args.word),
      arith_is c.args.sum.now,
      ← c.in_ok-signs.ensures,
      ← c.as_slice.ensures,
      ← c.in_ok-push.ensures,
    )
    (rw c.new.ensures at (c.operands.ensures z))
