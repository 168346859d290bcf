use Rattle.std.proofs.Common.{◌≡◌, length}
use Rattle.std.specs.Prelude.{reverse}
use Rattle.sh_meaning.specs.Simple.{restored}
use Rattle.sh_interp.specs.Views.{saved_of}
use Rattle.sh_interp.proofs.assigns.restore.Given as goal

-- what is still to be put back makes of the variables what the whole makes of those at the start
abbrev pub invariant-names : goal.invariant-names
invariant-names l = restored (reverse l.before.items) l.vars ≡ restored (saved_of l.fn.before) l.initial.vars

abbrev pub decreases-names : goal.decreases-names
decreases-names l = length l.before.items
