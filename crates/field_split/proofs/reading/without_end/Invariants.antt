use Rattle.std.proofs.Common.{◌≡◌, ◌+◌, ◌≤◌, length, take}
use Rattle.std.specs.List.{suffix_len}
use Rattle.field_split.specs.declared.sort.Sort.TheVariants as sort
use Rattle.field_split.specs.Fields.{is_of}
use Rattle.field_split.proofs.reading.without_end.Given as goal

abbrev pub invariant-end : goal.invariant-end
invariant-end l = (l.end ≤ length l.items) × (l.end + suffix_len (is_of sort.White l.ifs) l.items ≡ length l.items + suffix_len (is_of sort.White l.ifs) (take l.end l.items))

abbrev pub decreases-end : goal.decreases-end
decreases-end l = l.end
