use Rattle.sh_syntax.proofs.Views.{script_is}
use Rattle.sh_interp.proofs.substitutions.begin_or_zero.Goals as goal

pub returns : goal.returns
returns c = λ z. rw (script_is c.args.script.now, ← c.as_slice.ensures) (c.items_or_zero.ensures z)
