use Rattle.std.proofs.Common.{◌≡◌, drop}
use Rattle.glob_pattern.specs.Brackets.{spells}
use Rattle.glob_pattern.proofs.bracket.spells.Given as goal

abbrev pub invariant-loop-b : goal.invariant-loop-b
invariant-loop-b l = spells l.rest (drop l.b-index l.name) ≡ spells l.signs l.name
