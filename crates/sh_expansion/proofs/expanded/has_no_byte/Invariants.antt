use Rattle.std.proofs.Common.{◌≡◌, drop}
use Rattle.field_split.specs.Reading.{bytes_of}
use Rattle.sh_meaning.specs.Expanded.{is_empty}
use Rattle.sh_expansion.proofs.expanded.has_no_byte.Given as goal

abbrev pub invariant-loop-item : goal.invariant-loop-item
invariant-loop-item l = is_empty (bytes_of (drop l.item-index l.items)) ≡ is_empty (bytes_of l.items)
