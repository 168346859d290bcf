use Rattle.std.proofs.Common.{◌≡◌, ◌++◌, drop}
use Rattle.field_split.specs.Reading.{bytes_of}
use Rattle.sh_expansion.proofs.expanded.bytes_of.Given as goal

abbrev pub invariant-loop-item : goal.invariant-loop-item
invariant-loop-item l = l.bytes.items ++ bytes_of (drop l.item-index l.items) ≡ bytes_of l.items
