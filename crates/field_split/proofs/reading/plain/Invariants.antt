use Rattle.std.proofs.Common.{◌≡◌, ◌++◌, true, drop}
use Rattle.field_split.specs.Reading.{line_items}
use Rattle.field_split.proofs.reading.plain.Given as goal

abbrev pub invariant-loop-b : goal.invariant-loop-b
invariant-loop-b l = l.items ++ line_items true (drop l.b-index l.line) ≡ line_items true l.line
