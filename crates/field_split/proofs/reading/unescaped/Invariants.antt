use Rattle.std.proofs.Common.{◌≡◌, ◌++◌, false, drop}
use Rattle.field_split.specs.Reading.{unescaped}
use Rattle.field_split.proofs.reading.unescaped.Given as goal

abbrev pub invariant-loop-b : goal.invariant-loop-b
invariant-loop-b l = l.items ++ unescaped l.escaped (drop l.b-index l.line) ≡ unescaped false l.line
