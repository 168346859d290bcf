use Rattle.std.proofs.Common.{◌≡◌, ◌+◌, drop}
use Rattle.std.specs.List.{prefix_len}
use Rattle.field_split.specs.Fields.{is_of}
use Rattle.field_split.proofs.sort.run_len.Given as goal

abbrev pub invariant-loop-i : goal.invariant-loop-i
invariant-loop-i l = l.i + prefix_len (is_of l.sort l.ifs) (drop l.i l.items) ≡ prefix_len (is_of l.sort l.ifs) l.items
