use Rattle.std.proofs.Common.{◌+◌, ◌-◌, length, suc}
use Rattle.sh_parser.specs.Knowing.{Grows}
use Rattle.sh_parser.proofs.knowing.guess_all.Given as goal

abbrev pub invariant-guesses : goal.invariant-guesses
invariant-guesses l = Grows l.fn.bodies l.bodies

abbrev pub decreases-guesses : goal.decreases-guesses
decreases-guesses l = suc (l.owed + l.found) - length l.bodies.texts
