use Rattle.std.proofs.Common.{◌≡◌, ◌++◌, drop}
use Rattle.glob_pattern.specs.Signs.{signs_from}
use Rattle.glob_pattern.proofs.sign.signs_of.Given as goal

abbrev pub invariant-loop-at : goal.invariant-loop-at
invariant-loop-at l = l.signs.items ++ signs_from l.at (drop l.at l.items) ≡ signs_from 0 l.items
